use Rattle.dp_store.proofs.element.next_element.Goals as goal

pub returns-in-Text-clause-stored : goal.returns-in-Text-clause-stored
returns-in-Text-clause-stored c = c.of_text.ensures.stored c.args.store.now.records

pub returns-in-OptInt-clause-stored : goal.returns-in-OptInt-clause-stored
returns-in-OptInt-clause-stored c = c.of_opt_int.ensures.stored c.args.store.now.records

pub returns-in-Int-clause-stored : goal.returns-in-Int-clause-stored
returns-in-Int-clause-stored c = c.of_int.ensures.stored c.args.store.now.records

use Rattle.std.proofs.Common.{◌≡◌, ◌≤◌, ◌∙◌, ◌+◌, ◌<◌, length, take, sym, ap, subst, arith}
use Rattle.dp_domain.specs.declared.values.Value.TheVariants as value
use Rattle.dp_store.specs.declared.listing.Listing.{Listing}
use Rattle.dp_store.specs.Listings.{listing_value, IsStoredListing}
use Rattle.dp_store.specs.Rowwise.{list_len}
use Rattle.dp_store.specs.Selections.{selected}
use Rattle.dp_store.proofs.Passes.{given_of}
use Rattle.dp_store.proofs.RecordPasses.{given-element, given-none, given-all, given-few}
use Rattle.dp_store.proofs.pass.listed.Goals as goal
use Rattle.dp_store.proofs.pass.listed.Goals.{in-Some+in_ok-push, in_default}

pub loop-k-init : goal.loop-k-init
loop-k-init c = record {
  value = c.new-listing.ensures.value c.args.store.now.records ∙ c.kind_after.ensures;
  stored = c.new-listing.ensures.stored c.args.store.now.records;
}

pub loop-k-preserved : goal.loop-k-preserved
loop-k-preserved c =
    let rows = c.args.store.now.records in
    let stages = c.args.stages.now in
    let base = c.args.base.now in
    let k = c.loop-k.k in
    let so_far = listing_value rows c.loop-k.listing in
    let within : k < length base = omega (arith, c.loop-k-test.true, c.len-k-end.ensures) in
    let wanted = given_of stages (value.Rows (selected rows (take (k + 1) base))) in
    elim c.match-element_of.branch [
      | in-Some+in_ok-push w ↦ record {
        value = subst (λ (l : Listing). listing_value rows l ≡ wanted) (sym w.listing-is) (w.in_ok-push.ensures.value rows
            ∙ given-element rows stages c.requires.rowwise base k c.at.result w.in-Some.element so_far
            within c.at.ensures w.in-Some.ensures.value c.loop-k.invariant.value);
        stored = subst (λ (l : Listing). IsStoredListing rows l) (sym w.listing-is)
            (w.in_ok-push.ensures.stored rows c.loop-k.invariant.stored w.in-Some.ensures.stored);
      }
      | in_default w ↦ record {
        value = subst (λ (l : Listing). listing_value rows l ≡ wanted) (sym w.listing-is)
            (given-none rows stages c.requires.rowwise base k c.at.result so_far
            within c.at.ensures w.in_default.ensures.value c.loop-k.invariant.value);
        stored = subst (λ (l : Listing). IsStoredListing rows l) (sym w.listing-is) c.loop-k.invariant.stored;
      }
    ]

pub returns-clause-few : goal.returns-clause-few
returns-clause-few c =
    let rows = c.args.store.now.records in
    let stages = c.args.stages.now in
    let base = c.args.base.now in
    let few = given-few rows stages c.requires.rowwise base in
    let end : length base ≤ c.loop-k.k = omega (arith, c.loop-k-test.false, c.len-k-end.ensures) in
    let size = ap list_len (c.loop-k.invariant.value ∙ given-all rows stages c.requires.rowwise base c.loop-k.k end) in
    omega (arith, c.requires.base.0)

use Rattle.std.proofs.Common.{◌∙◌, ◌-◌, ◌^◌, [], Some, arith, refl}
use Rattle.std.proofs.lemmas.Result.{err_from_is_err_and}
use Rattle.dp_runner.specs.Sample.{women_query, ages_query, districts_query, sample_queries}
use Rattle.dp_runner.proofs.AnsweringSteps.{standing-none}
use Rattle.dp_runner.proofs.SampleQueries.{after_women, after_ages, women-first, women-after, ages-first, ages-after, districts-first, districts-after, query-answered, query-broken, queries-ended}
use Rattle.dp_runner.proofs.sample.answer_queries.Goals as goal

pub returns-in_err-answer_line-clause-runs : goal.returns-in_err-answer_line-clause-runs
returns-in_err-answer_line-clause-runs g c =
    let p = err_from_is_err_and c.from_residual.result c.from_residual.ensures.1 in
    let answering = g.A.Answerer.answering c.args.answerer.now in
    let s = standing-none (g.A.Answerer.stands c.args.answerer.now) answering
    g.D.Draws.step (g.D.Draws.state c.args.draws.now) (Some sample_queries) (g.K.Sink.held c.args.out.now) c.requires in
    rw (p.1, p.2) (query-broken c.in_err-answer_line.field-0.0 _ answering answering _ (g.D.Draws.state c.answer_line.new.draws)
    women_query c.as_bytes.result.now sample_queries (Some sample_queries) _ _ _ _ (2 ^ 20) (2 ^ 20 - 1)
    c.as_bytes.ensures.value refl (omega arith) s women-first
    (c.in_err-answer_line.ensures.line s.past s.stands_at))

pub returns-in_err-answer_line-2-clause-runs : goal.returns-in_err-answer_line-2-clause-runs
returns-in_err-answer_line-2-clause-runs g c =
    let p = err_from_is_err_and c.from_residual-in_err-answer_line-2.result c.from_residual-in_err-answer_line-2.ensures.1 in
    let answering = g.A.Answerer.answering c.args.answerer.now in
    let writes = g.met.A.Answerer.whole_lines c.args.answerer.now in
    let s = standing-none (g.A.Answerer.stands c.args.answerer.now) answering
    g.D.Draws.step (g.D.Draws.state c.args.draws.now) (Some sample_queries) (g.K.Sink.held c.args.out.now) c.requires in
    let t = query-answered _ (g.A.Answerer.stands c.answer_line.new.self) answering answering _ (g.D.Draws.state c.answer_line.new.draws)
    women_query c.as_bytes.result.now sample_queries after_women (Some sample_queries) _ _ (g.K.Sink.held c.answer_line.new.out) _ (2 ^ 20) (2 ^ 20 - 1)
    writes c.as_bytes.ensures.value refl (omega arith) s women-first women-after
    (c.in_ok-answer_line.ensures.line s.past s.stands_at) (c.in_ok-answer_line.ensures.answered s.past s.stands_at) in
    let same = c.in_ok-answer_line.ensures.same in
    rw (p.1, p.2) (query-broken c.in_err-answer_line-2.field-0.0 _ answering _ _ (g.D.Draws.state c.answer_line-2.new.draws)
    ages_query c.as_bytes-2.result.now after_women (Some sample_queries) _ _ _ _ (2 ^ 20 - 1) (2 ^ 20 - 2)
    c.as_bytes-2.ensures.value same (omega arith) t ages-first
    (c.in_err-answer_line-2.ensures.line t.past t.stands_at))

pub returns-in_err-answer_line-3-clause-runs : goal.returns-in_err-answer_line-3-clause-runs
returns-in_err-answer_line-3-clause-runs g c =
    let p = err_from_is_err_and c.from_residual-in_err-answer_line-3.result c.from_residual-in_err-answer_line-3.ensures.1 in
    let answering = g.A.Answerer.answering c.args.answerer.now in
    let writes = g.met.A.Answerer.whole_lines c.args.answerer.now in
    let s = standing-none (g.A.Answerer.stands c.args.answerer.now) answering
    g.D.Draws.step (g.D.Draws.state c.args.draws.now) (Some sample_queries) (g.K.Sink.held c.args.out.now) c.requires in
    let t = query-answered _ (g.A.Answerer.stands c.answer_line.new.self) answering answering _ (g.D.Draws.state c.answer_line.new.draws)
    women_query c.as_bytes.result.now sample_queries after_women (Some sample_queries) _ _ (g.K.Sink.held c.answer_line.new.out) _ (2 ^ 20) (2 ^ 20 - 1)
    writes c.as_bytes.ensures.value refl (omega arith) s women-first women-after
    (c.in_ok-answer_line.ensures.line s.past s.stands_at) (c.in_ok-answer_line.ensures.answered s.past s.stands_at) in
    let same = c.in_ok-answer_line.ensures.same in
    let u = query-answered _ (g.A.Answerer.stands c.answer_line-2.new.self) answering _ _ (g.D.Draws.state c.answer_line-2.new.draws)
    ages_query c.as_bytes-2.result.now after_women after_ages (Some sample_queries) _ _ (g.K.Sink.held c.answer_line-2.new.out) _ (2 ^ 20 - 1) (2 ^ 20 - 2)
    writes c.as_bytes-2.ensures.value same (omega arith) t ages-first ages-after
    (c.in_ok-answer_line-2.ensures.line t.past t.stands_at) (c.in_ok-answer_line-2.ensures.answered t.past t.stands_at) in
    let same2 = c.in_ok-answer_line-2.ensures.same ∙ same in
    rw (p.1, p.2) (query-broken c.in_err-answer_line-3.field-0.0 _ answering _ _ (g.D.Draws.state c.answer_line-3.new.draws)
    districts_query c.as_bytes-3.result.now after_ages (Some sample_queries) _ _ _ _ (2 ^ 20 - 2) (2 ^ 20 - 3)
    c.as_bytes-3.ensures.value same2 (omega arith) u districts-first
    (c.in_err-answer_line-3.ensures.line u.past u.stands_at))

pub returns-clause-runs : goal.returns-clause-runs
returns-clause-runs g c =
    let answering = g.A.Answerer.answering c.args.answerer.now in
    let writes = g.met.A.Answerer.whole_lines c.args.answerer.now in
    let s = standing-none (g.A.Answerer.stands c.args.answerer.now) answering
    g.D.Draws.step (g.D.Draws.state c.args.draws.now) (Some sample_queries) (g.K.Sink.held c.args.out.now) c.requires in
    let t = query-answered _ (g.A.Answerer.stands c.answer_line.new.self) answering answering _ (g.D.Draws.state c.answer_line.new.draws)
    women_query c.as_bytes.result.now sample_queries after_women (Some sample_queries) _ _ (g.K.Sink.held c.answer_line.new.out) _ (2 ^ 20) (2 ^ 20 - 1)
    writes c.as_bytes.ensures.value refl (omega arith) s women-first women-after
    (c.in_ok-answer_line.ensures.line s.past s.stands_at) (c.in_ok-answer_line.ensures.answered s.past s.stands_at) in
    let same = c.in_ok-answer_line.ensures.same in
    let u = query-answered _ (g.A.Answerer.stands c.answer_line-2.new.self) answering _ _ (g.D.Draws.state c.answer_line-2.new.draws)
    ages_query c.as_bytes-2.result.now after_women after_ages (Some sample_queries) _ _ (g.K.Sink.held c.answer_line-2.new.out) _ (2 ^ 20 - 1) (2 ^ 20 - 2)
    writes c.as_bytes-2.ensures.value same (omega arith) t ages-first ages-after
    (c.in_ok-answer_line-2.ensures.line t.past t.stands_at) (c.in_ok-answer_line-2.ensures.answered t.past t.stands_at) in
    let same2 = c.in_ok-answer_line-2.ensures.same ∙ same in
    let v = query-answered _ (g.A.Answerer.stands c.answer_line-3.new.self) answering _ _ (g.D.Draws.state c.answer_line-3.new.draws)
    districts_query c.as_bytes-3.result.now after_ages [] (Some sample_queries) _ _ (g.K.Sink.held c.answer_line-3.new.out) _ (2 ^ 20 - 2) (2 ^ 20 - 3)
    writes c.as_bytes-3.ensures.value same2 (omega arith) u districts-first districts-after
    (c.in_ok-answer_line-3.ensures.line u.past u.stands_at) (c.in_ok-answer_line-3.ensures.answered u.past u.stands_at) in
    let same3 = c.in_ok-answer_line-3.ensures.same ∙ same2 in
    queries-ended c.write_last.result _ answering _ _ (Some sample_queries) _ _ _ _ (2 ^ 20 - 3) writes same3 v
    (c.write_last.ensures.ends v.past v.stands_at)

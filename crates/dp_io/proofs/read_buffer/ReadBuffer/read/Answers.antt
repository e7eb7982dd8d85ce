use Rattle.std.proofs.Common.{◌≡◌, ◌≤◌, ◌+◌, ◌++◌, ◌∙◌, ap, rules, arith, drop, take, length, slice_range}
use Rattle.std.specs.Vec.{with_items}
use Rattle.std.proofs.lemmas.List.{with_items_is, length-drop}
use Rattle.dp_io.proofs.Ranges.{range-more, range-kept, ReadsBehind-taken}
use Rattle.dp_io.proofs.read_buffer.ReadBuffer.read.Goals as goal

pub returns-in_err-n-clause-refused : goal.returns-in_err-n-clause-refused
returns-in_err-n-clause-refused g c =
    let room = with_items c.self.inside.bytes c.make_room-start.new.bytes in
    let before : c.deref_mut-2.result.now ≡ c.make_room-start.new.bytes =
    c.deref_mut-2.ensures.value ∙ with_items_is c.self.inside.bytes c.make_room-start.new.bytes (omega arith) in
    let after : (with_items room c.read_from.new.bytes).items ≡ c.read_from.new.bytes = with_items_is room c.read_from.new.bytes (omega arith) in
    let held : slice_range c.make_room-start.new.bytes c.make_room-start.result.0 c.make_room-start.result.1 ≡ c.args.self.now =
    c.make_room-start.ensures.same ∙ ap (λ bytes. slice_range bytes c.self.inside.start c.self.inside.end) c.deref_mut.ensures.value ∙ c.self.view_is in
    let kept : slice_range (with_items room c.read_from.new.bytes).items c.make_room-start.result.0 c.make_room-start.result.1 ≡ c.args.self.now =
    rw after (range-kept _ _ c.make_room-start.result.0 c.make_room-start.result.1 (c.read_from.ensures.front ∙ ap (take c.make_room-start.result.1) before) ∙ held) in
    search (rules, kept)

pub returns-clause-behind : goal.returns-clause-behind
returns-clause-behind g c =
    let room = with_items c.self.inside.bytes c.make_room-start.new.bytes in
    let before : c.deref_mut-2.result.now ≡ c.make_room-start.new.bytes =
    c.deref_mut-2.ensures.value ∙ with_items_is c.self.inside.bytes c.make_room-start.new.bytes (omega arith) in
    let after : (with_items room c.read_from.new.bytes).items ≡ c.read_from.new.bytes = with_items_is room c.read_from.new.bytes (omega arith) in
    let held : slice_range c.make_room-start.new.bytes c.make_room-start.result.0 c.make_room-start.result.1 ≡ c.args.self.now =
    c.make_room-start.ensures.same ∙ ap (λ bytes. slice_range bytes c.self.inside.start c.self.inside.end) c.deref_mut.ensures.value ∙ c.self.view_is in
    let piece = take c.in_ok-n.n (drop c.make_room-start.result.1 c.read_from.new.bytes) in
    let now : slice_range (with_items room c.read_from.new.bytes).items c.make_room-start.result.0 (c.make_room-start.result.1 + c.in_ok-n.n) ≡ c.args.self.now ++ piece =
    rw after (range-more _ _ c.make_room-start.result.0 c.make_room-start.result.1 c.in_ok-n.n c.make_room-start.ensures.ordered (c.read_from.ensures.front ∙ ap (take c.make_room-start.result.1) before)
    ∙ ap (λ bytes. bytes ++ piece) held) in
    let fits : c.in_ok-n.n ≤ length (drop c.make_room-start.result.1 c.read_from.new.bytes) =
    omega (arith, c.in_ok-n.ensures.fits, length-drop c.make_room-start.result.1 c.read_from.new.bytes) in
    rw now (ReadsBehind-taken _ _ _ _ _ fits c.in_ok-n.ensures.takes)

use Rattle.std.proofs.Common.{◌≡◌, ◌++◌, map, drop, length}
use Rattle.dp_count.specs.Results.{on_ok}
use Rattle.dp_chain.specs.Releases.{parts_on, AreAlike}
use Rattle.dp_chain.specs.PartMeanings.{part_mechanism}
use Rattle.dp_chain.proofs.release.make_release.Given as goal

abbrev pub invariant-loop-part : goal.invariant-loop-part
invariant-loop-part l = record {
  many : length l.made.items ≡ l.part-index;
  alike : AreAlike record { p = l.ratio.p; q = l.ratio.q } l.domain l.metric (map part_mechanism l.made.items);
  forward : parts_on record { p = l.ratio.p; q = l.ratio.q } l.parts l.domain l.metric ≡
      on_ok (λ rest. map part_mechanism l.made.items ++ rest) (parts_on record { p = l.ratio.p; q = l.ratio.q } (drop l.part-index l.parts) l.domain l.metric);
}

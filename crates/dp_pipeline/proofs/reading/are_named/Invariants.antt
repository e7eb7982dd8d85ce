use Rattle.std.proofs.Common.{◌≡◌, map}
use Rattle.std.specs.List.{list_all, list_any}
use Rattle.std.specs.Str.{bytes_eq}
use Rattle.serde_json.specs.View.{members_view}
use Rattle.dp_pipeline.specs.Json.{members_of}
use Rattle.dp_pipeline.proofs.reading.are_named.Given as goal

-- what is left decides
abbrev pub invariant-loop-name : goal.invariant-loop-name
invariant-loop-name l =
    list_all (λ named. list_any (bytes_eq named.0) (map (λ name. name.now) l.names)) (members_of (members_view l.members.entries))
    ≡ list_all (λ named. list_any (bytes_eq named.0) (map (λ name. name.now) l.names)) (members_of (members_view l.name-iterator))

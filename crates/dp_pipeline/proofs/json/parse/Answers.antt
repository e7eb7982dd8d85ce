use Rattle.std.proofs.Common.{◌≡◌, Bool, true, false, List, ℕ, Some, None, refl, sym, ◌∙◌, cond, true≢false}
use Rattle.std.proofs.lemmas.Str.{IsUtf8-from_is_utf8, is_utf8-from_IsUtf8}
use Rattle.std.specs.Str.{is_utf8, IsUtf8}
use Rattle.serde_json.specs.Data.{Data}
use Rattle.serde_json.specs.Read.{read}
use Rattle.dp_pipeline.specs.Json.{json_of}
use Rattle.dp_pipeline.proofs.json.parse.Goals as goal

read-json : (bytes : List ℕ) (d : Data) → IsUtf8 bytes → read bytes ≡ Some d → Some d ≡ json_of bytes
unfolding json_of
read-json bytes d utf8 is = rw (is_utf8-from_IsUtf8 bytes utf8) (sym is)

no-json_at : (bytes : List ℕ) (b : Bool) → is_utf8 bytes ≡ b → (IsUtf8 bytes → read bytes ≡ None) → None ≡ cond b (read bytes) None
no-json_at bytes true is none = sym (none (IsUtf8-from_is_utf8 bytes is))
no-json_at bytes false is none = refl

no-json : (bytes : List ℕ) → (IsUtf8 bytes → read bytes ≡ None) → None ≡ json_of bytes
unfolding json_of
no-json bytes none = no-json_at bytes (is_utf8 bytes) refl none

pub returns-in-Ok : goal.returns-in-Ok
returns-in-Ok c = read-json c.args.bytes.now _ c.in-Ok.ensures.ok.0 c.in-Ok.ensures.ok.1

pub returns-in-Err-2 : goal.returns-in-Err-2
returns-in-Err-2 c = no-json c.args.bytes.now (c.in-Err.ensures.err (λ memory. true≢false (sym (c.is_memory.ensures.1 memory) ∙ c.if-is_memory.false)))

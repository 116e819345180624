-- The name is of digits, so it is text.
-- Assumes nothing.
use Rattle.std.proofs.Common.{◌<◌, ◌∷◌, [], ℕ, Ok, Err, refl}
use Rattle.std.proofs.lemmas.Str.{IsUtf8-from_ascii}
use Rattle.std.proofs.lemmas.Str.Ascii.{IsAscii-nil, IsAscii-cons}
use Rattle.std.specs.Result.{IsOk, MatchResult}
use Rattle.std.specs.Str.{IsUtf8}
use Rattle.std.specs.declared.result.Result.{Result}
use Rattle.test_support.proofs.files.next_file.Goals as goal

ok_where_no_error : {T E : Type 0} (r : Result T E) (P : T → Type 0) (Q : E → Type 0) → MatchResult r P Q → ((e : E) → Q e → ⊥) → IsOk r
ok_where_no_error (Ok x) P Q m none = refl
ok_where_no_error (Err e) P Q m none = absurd (none e m)

three_are_text : (a b c : ℕ) → a < 128 → b < 128 → c < 128 → IsUtf8 (a ∷ b ∷ c ∷ [])
three_are_text a b c p q r = IsUtf8-from_ascii (a ∷ b ∷ c ∷ []) (IsAscii-cons a (b ∷ c ∷ []) p (IsAscii-cons b (c ∷ []) q (IsAscii-cons c [] r IsAscii-nil)))

pub unwrap-name-requires : goal.unwrap-name-requires
unwrap-name-requires g c =
    let text = three_are_text c.digit.result c.digit-2.result c.digit-3.result c.digit.ensures c.digit-2.ensures c.digit-3.ensures in
    ok_where_no_error c.from_utf8.result _ _ c.from_utf8.ensures.cases (λ e q. q.0 text)

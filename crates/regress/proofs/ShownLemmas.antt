-- A pattern that is read from a text has that text.
use Rattle.std.proofs.Common.{◌≡◌, ℕ, List, chars, Result, Ok, Err, IfOk, ap, ◌∙◌}
use Rattle.std.specs.Str.{IsUtf8}
use Rattle.regress_errors.specs.Texts.{shown_text}
use Rattle.regress_errors.proofs.ShownLemmas.{shown-chars}
use Rattle.regress.specs.declared.api.Regex.{Regex}
use Rattle.regress.specs.Standing.{source_of}

-- a pattern that is read from a text has that text
pub text-as : {E : Type 0} (made : Result Regex E) (points bytes : List ℕ) → IsUtf8 bytes → points ≡ chars bytes → IfOk made (λ r. source_of r ≡ shown_text points)
    → IfOk made (λ r. source_of r ≡ bytes)
text-as (Ok r) points bytes utf8 same text = text ∙ ap shown_text same ∙ shown-chars bytes utf8
text-as (Err e) points bytes utf8 same text = tt

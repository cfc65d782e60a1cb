use Rattle.std.proofs.Common.{◌≡◌, refl, ◌∙◌, ap, sym, ℕ, ◌+◌, ◌<◌, ◌&&◌, if◌then◌else◌, List, [], ◌∷◌, ◌++◌, length, drop, get_or, chars, Some, None, map-id, arith}
use Rattle.std.specs.Option.{option_or}
use Rattle.std.proofs.lemmas.Iterator.{YieldsList-from_chars}
use Rattle.std.proofs.lemmas.Iterator.Consumers.{YieldsList-turn, YieldsList-end}
use Rattle.std.proofs.lemmas.List.{at_drop_more, at_drop_all, length_push}
use Rattle.std.proofs.lemmas.Result.{err_from_is_err_and}
use Rattle.regress_front_core.specs.declared.script_flags.ScriptFlags.{ScriptFlags}
use Rattle.regress_front_core.specs.declared.script_flags.FlagError.TheVariants.{BothUnicodeModes}
use Rattle.regress_front_core.specs.FlagWords.{script_flags_of, letter_error, first_error, mode_error, word_error}
use Rattle.regress_front_core.proofs.flags.Flags.parse.Goals as goal
use Rattle.regress_front_core.proofs.flags.Flags.parse.Goals.{else-script-via-then-script+else-script-2, else-script-via-else-script}

-- the letter at a place decides what is wrong from there on
first_error-more : (before cs : List ℕ) (n c : ℕ) → (n < length cs) × (c ≡ get_or cs n c)
    → first_error before (drop n cs) ≡ option_or (letter_error before c) (first_error (before ++ c ∷ []) (drop (n + 1) cs))
first_error-more before cs n c h =
    at_drop_more (first_error before) cs n c h.0
    ∙ ap (λ x. option_or (letter_error before x) (first_error (before ++ x ∷ []) (drop (n + 1) cs))) (sym h.1)

-- where no letter of a word is wrong, its modes decide
word_error-end : (cs before : List ℕ) (script : ScriptFlags) → first_error [] cs ≡ first_error before (drop (length before) cs)
    → length before ≡ length cs → script ≡ script_flags_of cs
    → word_error cs ≡ (if script.flags.unicode && script.flags.unicode_sets then Some BothUnicodeModes else None)
word_error-end cs before script searched all set =
    rw (searched, at_drop_all (first_error before) cs (length before) (omega (arith, all)), set) refl

pub loop-letter-preserved : goal.loop-letter-preserved
loop-letter-preserved c =
    let turn = YieldsList-turn (YieldsList-from_chars c.args.word.now c.utf8.word cc) c.loop-letter.yielded _ c.loop-letter.yielded_by _ _ c.in-Some.letter c.in-Some.is c.next.ensures.steps in
    let step = first_error-more c.loop-letter.yielded _ _ _ turn in
    let told = c.in_ok-set.ensures.refused c.loop-letter.yielded c.loop-letter.invariant.set in
    record {
      set = c.in_ok-set.ensures.set c.loop-letter.yielded c.loop-letter.invariant.set;
      searched = rw (length_push, c.loop-letter.invariant.searched, step, ← told) refl;
    }

pub returns-in_err-set-clause-refused : goal.returns-in_err-set-clause-refused
returns-in_err-set-clause-refused c =
    let turn = YieldsList-turn (YieldsList-from_chars c.args.word.now c.utf8.word cc) c.loop-letter.yielded _ c.loop-letter.yielded_by _ _ c.in-Some.letter c.in-Some.is c.next.ensures.steps in
    let step = first_error-more c.loop-letter.yielded _ _ _ turn in
    let told = c.in_err-set.ensures.refused c.loop-letter.yielded c.loop-letter.invariant.set in
    let p = err_from_is_err_and c.from_residual.result c.from_residual.ensures.1 in
    rw (p.1, p.2, c.loop-letter.invariant.searched, step, ← told) refl

pub returns-clause-accepted : goal.returns-clause-accepted
returns-clause-accepted c =
    let end = YieldsList-end (YieldsList-from_chars c.args.word.now c.utf8.word cc) c.loop-letter.yielded _ c.loop-letter.yielded_by _ _ c.in-None.is c.next.ensures.steps in
    c.loop-letter.invariant.set ∙ ap script_flags_of (sym (map-id c.loop-letter.yielded) ∙ end.0)

pub returns-then-script-2-clause-refused : goal.returns-then-script-2-clause-refused
returns-then-script-2-clause-refused c =
    let end = YieldsList-end (YieldsList-from_chars c.args.word.now c.utf8.word cc) c.loop-letter.yielded _ c.loop-letter.yielded_by _ _ c.in-None.is c.next.ensures.steps in
    let set = c.loop-letter.invariant.set ∙ ap script_flags_of (sym (map-id c.loop-letter.yielded) ∙ end.0) in
    rw (word_error-end _ _ c.loop-letter.script c.loop-letter.invariant.searched end.1 set, c.if-script.true, c.if-script-2.true) refl

pub returns-clause-refused : goal.returns-clause-refused
returns-clause-refused c =
    let end = YieldsList-end (YieldsList-from_chars c.args.word.now c.utf8.word cc) c.loop-letter.yielded _ c.loop-letter.yielded_by _ _ c.in-None.is c.next.ensures.steps in
    let set = returns-clause-accepted c in
    let told = word_error-end _ _ c.loop-letter.script c.loop-letter.invariant.searched end.1 set in
    elim c.else-script.branch [
      | else-script-via-then-script+else-script-2 w ↦ rw (told, w.if-script.true, w.if-script-2.false) refl
      | else-script-via-else-script w ↦ rw (told, w.if-script.false) refl
    ]

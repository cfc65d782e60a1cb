use Rattle.std.proofs.Common.{◌≡◌, ◌∙◌, List, ℕ, chars, sym, ap}
use Rattle.regress_meaning.specs.Flags.{options_of}
use Rattle.regress_front.specs.FlagWords.{options}
use Rattle.regress_calls.specs.Handles.{content}
use Rattle.regress_calls.proofs.CompileLemmas.{compiled-with, refused-source}
use Rattle.regress_calls.proofs.compiling.compile.Goals as goal

pub returns-clause-refused : goal.returns-clause-refused
returns-clause-refused c =
    let set : options c.in_ok-flags.flags ≡ options_of (chars c.args.letters.now)
    = c.in_ok-flags.ensures.read ∙ ap (λ (l : List ℕ). options_of (chars l)) c.in_ok-utf8.ensures.text in
    refused-source (content c.args.tables.now.held) c.args.limit c.args.source c.args.letters.now c.in_ok-known.known (options c.in_ok-flags.flags) c.in-Err.refused.error
    c.in_ok-known.ensures.shared set c.in-Err.ensures.refused

pub returns-in-Ok-clause-compiled : goal.returns-in-Ok-clause-compiled
returns-in-Ok-clause-compiled c = λ ps holds.
    let set : options c.in_ok-flags.flags ≡ options_of (chars c.args.letters.now)
    = c.in_ok-flags.ensures.read ∙ ap (λ (l : List ℕ). options_of (chars l)) c.in_ok-utf8.ensures.text in
    let made = c.in-Ok.ensures.compiled in (
      made.0,
      ap content c.put.ensures ∙ made.1,
      compiled-with c.args.limit c.args.source c.in_ok-known.known ps (options c.in_ok-flags.flags) (options_of (chars c.args.letters.now)) made.0 (sym c.in_ok-known.ensures.shared ∙ holds) set made.2,
    )

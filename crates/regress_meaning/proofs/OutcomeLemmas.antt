-- Where a pattern leads: its outcomes lie on one side of the place that it starts from, stay inside the text, and have as
-- many groups.
use Rattle.std.proofs.Common.{◌≡◌, ℕ, zero, suc, Bool, true, false, List, [], ◌∷◌, length, if◌then◌else◌, slice_get, max, reverse, All}
use Rattle.std.proofs.lemmas.List.Elements.{All-take, All-weaker}
use Rattle.regress_meaning.specs.Class.{Strings, longest}
use Rattle.regress_meaning.specs.Pattern.{Pattern, Settings, nothing, character, any, class, class_escape, sequence, choice, capture, grouped, atomic, modified, repeated, look, reference, line_start, line_end, word_boundary}
use Rattle.regress_meaning.specs.Meaning.{State, Direction, Forward, Backward, Context, string_steps, class_steps, cleared, references, outcomes}
use Rattle.regress_meaning.specs.Laws.{IsAhead, IsInside}
use Rattle.regress_meaning.proofs.StepLaws.{To, Goes, stays, All-after, Goes-both, Goes-in_order, Goes-step, Goes-keep_if, Goes-repeat_group, Goes-cleared, Goes-iterations, Goes-looked, Goes-captured}

module _ (context : Context) where
  Goes-string_steps : (dir : Direction) (icase : Bool) (v : Strings) (k : ℕ) → Goes context dir (string_steps context dir icase v k)
  unfolding string_steps
  Goes-string_steps dir icase v zero s = Goes-step context dir 0 _ s
  Goes-string_steps dir icase v (suc k) s =
      Goes-both context dir _ (string_steps context dir icase v k) (Goes-step context dir (suc k) _) (Goes-string_steps dir icase v k) s

  Goes-class_steps : (dir : Direction) (icase negated : Bool) (v : Strings)
      → Goes context dir (class_steps context dir icase negated v)
  unfolding class_steps
  Goes-class_steps dir icase true v s = Goes-step context dir 1 _ s
  Goes-class_steps dir icase false v s = Goes-string_steps dir icase v (max 1 (longest v.others)) s

  Goes-references : (dir : Direction) (icase : Bool) (ks : List ℕ) → Goes context dir (references context dir icase ks)
  unfolding references
  Goes-references dir icase [] s = stays context dir s
  Goes-references dir icase (k ∷ ks) s =
      All-after context dir (references context dir icase ks) (Goes-references dir icase ks) s _
      (Goes-repeat_group context dir icase (slice_get s.groups k) s)

  -- from each state all outcomes of a pattern are ahead, and inside the text if the state is
  pub Goes-outcomes : (p : Pattern) (dir : Direction) (e : Settings) → Goes context dir (outcomes context p dir e)
  unfolding outcomes
  Goes-outcomes nothing dir e s = stays context dir s
  Goes-outcomes (character c) dir e s = Goes-step context dir 1 _ s
  Goes-outcomes any dir e s = Goes-step context dir 1 _ s
  Goes-outcomes (class_escape set) dir e s = Goes-class_steps dir e.icase false _ s
  Goes-outcomes (class negated set) dir e s = Goes-class_steps dir e.icase negated _ s
  Goes-outcomes (sequence a b) dir e s =
      Goes-in_order context dir (outcomes context a dir e) (outcomes context b dir e) (Goes-outcomes a dir e) (Goes-outcomes b dir e) s
  Goes-outcomes (choice a b) dir e s =
      Goes-both context dir (outcomes context a dir e) (outcomes context b dir e) (Goes-outcomes a dir e) (Goes-outcomes b dir e) s
  Goes-outcomes (capture k name a) dir e s = Goes-captured context dir k (outcomes context a dir e) (Goes-outcomes a dir e) s
  Goes-outcomes (grouped a) dir e s = Goes-outcomes a dir e s
  Goes-outcomes (atomic a) dir e s = All-take (To context dir s) 1 (outcomes context a dir e s) (Goes-outcomes a dir e s)
  Goes-outcomes (modified on off a) dir e s = Goes-outcomes a dir _ s
  Goes-outcomes (repeated a first last least most greedy) dir e s =
      Goes-iterations context dir (λ t. outcomes context a dir e (cleared first last t))
      (Goes-cleared context dir first last (outcomes context a dir e) (Goes-outcomes a dir e)) greedy most least s
  Goes-outcomes (look negated backward a) dir e s =
      let turned : Direction = if backward then Backward else Forward in
      Goes-looked context dir turned negated (outcomes context a turned e) (Goes-outcomes a turned e) s
  Goes-outcomes (reference ks) Forward e s = Goes-references Forward e.icase ks s
  Goes-outcomes (reference ks) Backward e s = Goes-references Backward e.icase (reverse ks) s
  Goes-outcomes line_start dir e s = Goes-keep_if context dir _ s
  Goes-outcomes line_end dir e s = Goes-keep_if context dir _ s
  Goes-outcomes (word_boundary negated) dir e s = Goes-keep_if context dir _ s

  pub outcomes_inside : (p : Pattern) (dir : Direction) (e : Settings) (s : State) → IsInside context.text s
      → All (λ t. IsInside context.text t × (length t.groups ≡ length s.groups)) (outcomes context p dir e s)
  outcomes_inside p dir e s h =
      All-weaker (To context dir s) (λ t. IsInside context.text t × (length t.groups ≡ length s.groups))
      (λ t l. (l.inside h, l.count)) _ (Goes-outcomes p dir e s)

  pub outcomes_ahead : (p : Pattern) (dir : Direction) (e : Settings) (s : State) → All (λ t. IsAhead dir s.place t.place) (outcomes context p dir e s)
  outcomes_ahead p dir e s =
      All-weaker (To context dir s) (λ t. IsAhead dir s.place t.place) (λ t l. l.ahead) _ (Goes-outcomes p dir e s)

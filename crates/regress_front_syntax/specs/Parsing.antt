-- What an answer of the parser says of the reading function.
use Rattle.std.specs.Prelude.{◌≡◌, ℕ, ◌+◌, ◌<◌, ◌≤◌, Bool, true, List, [], ◌∷◌, length, Option, Some, None, Result, Ok, Err, option_and_then, count_by, if◌then◌else◌}
use Rattle.std.specs.Global.{Vec, Box}
use Rattle.regress_meaning.specs.Pattern.{Pattern, names_of, character, repeated}
use Rattle.regress_meaning.specs.Tokens.{Mode}
use Rattle.regress_meaning.specs.Limits.{WithinLimits, depth, quantifiers, opens_nesting, opens_group, opens_quantifier, greatest_depth, most_groups, most_quantifiers}
use Rattle.regress_meaning.specs.Reading.{Front, Opening, quantified, closed, whole_tree, disjunction_at, read_term, single, no_term}
use Rattle.regress_front_core.specs.declared.error.Error.{Error}
use Rattle.regress_front_core.specs.declared.error.Error.TheVariants.{Syntax as SyntaxError, TooDeep, TooManyGroups, TooManyLoops, TooLarge, OutOfMemory}
use Rattle.regress_front_tokens.specs.declared.syntax.Term.{Term}
use Rattle.regress_front_tokens.specs.declared.syntax.Syntax.{Syntax}
use Rattle.regress_front_tokens.specs.declared.syntax.Syntax.TheVariants.{Alternative}
use Rattle.regress_front_core.specs.declared.quantifier.Quantifier.{Quantifier}
use Rattle.regress_front_syntax.specs.declared.group.Opening.{Opening as Parenthesis}
use Rattle.regress_front_syntax.specs.declared.parser.Parser.{Parser}
use Rattle.regress_front_syntax.specs.Openings.{enclosed, is_lookbehind, may_repeat, finish}
use Rattle.regress_front_tokens.specs.Trees.{tree}
use Rattle.regress_front_core.specs.Quantifiers.{most}
use Rattle.regress_front_tokens.specs.Cursors.{unread}
use Rattle.regress_front_tokens.specs.Words.{stands_for_itself}

-- where something is read: inside so many parentheses, with so many groups opened and so many quantifiers read before, at the
-- front of a text
pub record Place : Type 0 where
  pub nesting : ℕ
  pub opened : ℕ
  pub repeated : ℕ
  pub text : List ℕ

-- where a parser stands, inside so many parentheses
abbrev pub place : ℕ → Parser → Place
place nesting p = record { nesting = nesting; opened = p.groups; repeated = p.loops; text = unread p.cursor }

-- where a parser stands behind a mark that is still counted
abbrev pub place_behind : ℕ → ℕ → Parser → Place
place_behind mark nesting p = record { nesting = nesting; opened = p.groups; repeated = p.loops; text = mark ∷ unread p.cursor }

-- `v` is a Unicode mode
abbrev pub IsCoherent : Mode → Type 0
IsCoherent m = m.sets ≡ true → m.unicode ≡ true

-- what is counted at a later place was counted at the place before
pub record Leads (here there : Place) : Type 0 where
  pub nested : there.nesting + count_by opens_nesting there.text ≤ here.nesting + count_by opens_nesting here.text
  pub grouped : there.opened + count_by opens_group there.text ≤ here.opened + count_by opens_group here.text
  pub looped : there.repeated + count_by opens_quantifier there.text ≤ here.repeated + count_by opens_quantifier here.text

-- a tree within the limits was read from one place to another
pub record Grows (here there : Place) (p : Pattern) : Type 0 where
  pub counted : there.opened ≡ here.opened + length (names_of p)
  pub deep : here.nesting + depth p ≤ greatest_depth
  pub loops : there.repeated ≡ here.repeated + quantifiers p
  pub leads : Leads here there

-- the front of a tree that ends at a place
abbrev pub front_to : Place → Pattern → Front
front_to there p = record { tree = p; opened = there.opened; rest = there.text }

-- what a refusal says: no front is read; or each front passes the limit, and so does the number of characters by which a
-- text is judged that spells no tree
abbrev pub IsRefusal : Place → Option Front → Error → Type 0
IsRefusal here read (SyntaxError text) = read ≡ None
IsRefusal here read TooDeep =
    ((f : Front) → read ≡ Some f → greatest_depth < here.nesting + depth f.tree) × (greatest_depth < here.nesting + count_by opens_nesting here.text)
IsRefusal here read TooManyGroups =
    ((f : Front) → read ≡ Some f → most_groups < f.opened) × (most_groups < here.opened + count_by opens_group here.text)
IsRefusal here read TooManyLoops =
    ((f : Front) → read ≡ Some f → most_quantifiers < here.repeated + quantifiers f.tree) × (most_quantifiers < here.repeated + count_by opens_quantifier here.text)
IsRefusal here read TooLarge = ⊥
IsRefusal here read OutOfMemory = Unit {0}

-- What was answered from one place to another, where the reading function answers so.
abbrev pub IsAnswer : (here there : Place) → Option Front → Result Syntax Error → Type 0
IsAnswer here there read (Ok s) = (read ≡ Some (front_to there (tree s))) × Grows here there (tree s)
IsAnswer here there read (Err e) = IsRefusal here read e

-- what was answered, without its box
abbrev pub unboxed : Result (Box Syntax) Error → Result Syntax Error
unboxed (Ok s) = Ok s.value
unboxed (Err e) = Err e

-- terms that were answered, as the tree that they are one after another
abbrev pub as_alternative : Result (Vec (Term Syntax)) Error → Result Syntax Error
as_alternative (Ok terms) = Ok (Alternative terms)
as_alternative (Err e) = Err e

-- the tree of a front with the quantifier behind it, if one was read; k groups were opened before it
abbrev pub with_quantifier : Option Quantifier → ℕ → Front → Pattern
with_quantifier None k f = f.tree
with_quantifier (Some q) k f = repeated f.tree k f.opened q.min (most q) q.greedy

-- A quantifier was read from one place to another, or none stands there: a front that ends here is repeated by it up to there.
pub record ReadsQuantifier (allowed : Bool) (here there : Place) (q : Option Quantifier) : Type 0 where
  pub repeats : (k : ℕ) (f : Front) → f.rest ≡ here.text → quantified allowed k f ≡ Some (record { tree = with_quantifier q k f; opened = f.opened; rest = there.text })
  pub counted : (k : ℕ) (f : Front) → there.repeated + quantifiers f.tree ≡ here.repeated + quantifiers (with_quantifier q k f)
  pub opened : there.opened ≡ here.opened
  pub leads : Leads here there

-- One quantifier too many stands here: whatever is read of a front with it has one more.
pub record PassesQuantifiers (allowed : Bool) (here : Place) : Type 0 where
  pub full : here.repeated ≡ most_quantifiers
  pub repeats : (k : ℕ) (f g : Front) → f.rest ≡ here.text → quantified allowed k f ≡ Some g → quantifiers g.tree ≡ quantifiers f.tree + 1
  pub stands : 0 < count_by opens_quantifier here.text

-- What was answered for the quantifier from one place to another, where it is allowed or not.
abbrev pub IsQuantifier : Bool → (here there : Place) → Result (Option Quantifier) Error → Type 0
IsQuantifier allowed here there (Ok q) = ReadsQuantifier allowed here there q
IsQuantifier allowed here there (Err (SyntaxError text)) = (k : ℕ) (f : Front) → f.rest ≡ here.text → quantified allowed k f ≡ None
IsQuantifier allowed here there (Err TooManyLoops) = PassesQuantifiers allowed here
IsQuantifier allowed here there (Err _) = ⊥

-- What was answered for a tree and the quantifier behind it, if it may have one, wherever the tree was read from.
abbrev pub IsRepetition : Bool → ℕ → Pattern → (there next : Place) → Result Syntax Error → Type 0
IsRepetition allowed opened p there next result = (here : Place) → Grows here there p → IsAnswer here next (quantified allowed opened (front_to there p)) result

-- What was answered for an opening with its contents, and for the quantifier behind them if they may have one, wherever the
-- opening was read from.
abbrev pub IsFinished : Bool → Parenthesis → ℕ → Pattern → (there next : Place) → Result Syntax Error → Type 0
IsFinished unicode o k p there next result = (here : Place) → Grows here there (enclosed o k p)
    → IsAnswer here next (finish (is_lookbehind o) (may_repeat unicode o) k (front_to there (enclosed o k p))) result

-- what begins at the front of a text where no mark of syntax stands
abbrev pub character_opening : Mode → List ℕ → Opening
character_opening m [] = no_term
character_opening m (c ∷ t) = if stands_for_itself m.unicode (c ∷ t) then single (character c) t else no_term

-- contents up to the closing parenthesis, as they are
abbrev pub contents_of : Option Front → Option Front
contents_of o = option_and_then (closed (λ p. p)) o

-- the same at the front of a text
abbrev pub contents_at : Mode → List ℕ → ℕ → Option Front
contents_at m t k = contents_of (disjunction_at m t k)

-- a term, where its opening is read so
abbrev pub term_by : (Mode → List ℕ → Opening) → Mode → List ℕ → ℕ → Option Front
term_by opening m t k = read_term m (disjunction_at m) k (opening m t)

-- What a parser answered from one place to another, where what stands there is read so.
abbrev pub Answers : (List ℕ → ℕ → Option Front) → ℕ → (old new : Parser) → Result Syntax Error → Type 0
Answers read nesting old new result = IsAnswer (place nesting old) (place nesting new) (read (unread old.cursor) old.groups) result

-- The same where it stood behind a mark that is still counted.
abbrev pub AnswersBehind : ℕ → (List ℕ → ℕ → Option Front) → ℕ → (old new : Parser) → Result Syntax Error → Type 0
AnswersBehind mark read nesting old new result = IsAnswer (place_behind mark nesting old) (place nesting new) (read (unread old.cursor) old.groups) result

-- the tree that a whole text is read as, with no group opened before it
abbrev pub whole_at : Mode → List ℕ → Option Pattern
whole_at m t = option_and_then whole_tree (disjunction_at m t 0)

-- a limit is passed: by the tree that was read, and by a text that is read as none where it holds more such characters than that
abbrev pub PassesLimit : Option Pattern → List ℕ → (Pattern → ℕ) → (ℕ → Bool) → ℕ → Type 0
PassesLimit read text size opens limit = ((p : Pattern) → read ≡ Some p → limit < size p) × (read ≡ None → limit < count_by opens text)

-- What was answered for a whole text, where it is read so.
abbrev pub IsWholeAnswer : Option Pattern → List ℕ → Result Syntax Error → Type 0
IsWholeAnswer read text (Ok s) = (read ≡ Some (tree s)) × WithinLimits (tree s)
IsWholeAnswer read text (Err (SyntaxError message)) = read ≡ None
IsWholeAnswer read text (Err TooDeep) = PassesLimit read text depth opens_nesting greatest_depth
IsWholeAnswer read text (Err TooManyGroups) = PassesLimit read text (λ p. length (names_of p)) opens_group most_groups
IsWholeAnswer read text (Err TooManyLoops) = PassesLimit read text quantifiers opens_quantifier most_quantifiers
IsWholeAnswer read text (Err TooLarge) = ⊥
IsWholeAnswer read text (Err OutOfMemory) = Unit {0}

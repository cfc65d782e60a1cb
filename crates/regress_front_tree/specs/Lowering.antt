-- How the tree of a pattern is lowered to nodes: case closed by the table, classes as sets, parts in the order of reading.
use Rattle.std.specs.Prelude.{◌≡◌, ℕ, suc, ◌+◌, ◌≤◌, Bool, true, false, not, ◌&&◌, ◌||◌, ◌==◌, List, [], ◌∷◌, ◌++◌, length, Option, if◌then◌else◌, map, filter, sum_by, All, IfSome, ◌≢◌}
use Rattle.regress_meaning.specs.Table.{Table}
use Rattle.regress_meaning.specs.TableParts.{is_code_point}
use Rattle.regress_meaning.specs.Class.{Class, Strings, value_of, among}
use Rattle.regress_meaning.specs.Pattern as meaning
use Rattle.regress_meaning.specs.Pattern.{Pattern, Settings}
use Rattle.regress_meaning.specs.Meaning.{is_line_end, same, closed, with}
use Rattle.regress_front_tokens.specs.Trees.{sequence_of, choice_of}
use Rattle.regress_front_nodes.specs.Trees.{Tree, char, bytes, byte_set, char_set, alt, line_start, line_end, boundary, capture, back, string_set, submatch, lookaround, atomic, loop}
use Rattle.regress_front_nodes.specs.Forms.{cat_made, in_reading_order}
use Rattle.regress_front_nodes.specs.Characters.{Takes}
use Rattle.regress_front_nodes.specs.Pieces.{pieces_of}
use Rattle.regress_front_nodes.specs.WellFormed.{AreLawful}

-- The tree has these arms, the earlier preferred.
pub data HasArms : List Tree → Tree → Type 0 where
  one_arm : {t : Tree} → HasArms (t ∷ []) t
  two_halves : {ts us : List Tree} {t u : Tree} → HasArms ts t → HasArms us u → HasArms (ts ++ us) (alt t u)

-- no string is longer than one before it
abbrev pub LengthsFall : List (List ℕ) → Type 0
LengthsFall [] = Unit {0}
LengthsFall (s ∷ ss) = All (λ r. length r ≤ length s) ss × LengthsFall ss

-- The strings are those of a set but the empty one, the longer first.
pub record AreByLength (strings others : List (List ℕ)) : Type 0 where
  pub members : (s : List ℕ) → among strings s ≡ (not (length s == 0) && among others s)
  pub order : LengthsFall strings
  pub points : All (All is_code_point) strings
  -- each is among them as often as there
  pub often : (f : List ℕ → ℕ) → sum_by f strings ≡ sum_by f (filter (λ s. not (length s == 0)) others)

-- the arms of a class: its longer strings, its single characters, and the empty string as a set of its own
abbrev pub class_arms : Bool → List (List ℕ) → Tree → Bool → List Tree
class_arms icase strings characters has_empty =
    (if length strings == 0 then [] else string_set strings icase ∷ []) ++ (characters ∷ (if has_empty then string_set ([] ∷ []) icase ∷ [] else []))

-- the tree may be a piece of a text: by itself it takes some of its characters
abbrev pub is_piece : Tree → Bool
is_piece (char c) = true
is_piece (bytes bs) = true
is_piece (byte_set bs) = true
is_piece (char_set cs) = true
is_piece _ = false

module _ (table : Table) (unicode : Bool) where
  -- the strings that a class stands for
  abbrev pub class_value : Settings → Class → Strings
  class_value e c = value_of table (unicode && e.icase) c

  -- The trees are the pieces of a text.
  pub record ArePieces (icase : Bool) (cs : List ℕ) (us : List Tree) : Type 0 where
    pub points : All is_code_point cs
    pub are : us ≡ pieces_of table icase unicode cs
    pub kinds : All (λ u. is_piece u ≡ true) us
    pub lawful : All (AreLawful 0) us

  -- A class that isn't negated, as its arms.
  pub record LowersClass (e : Settings) (c : Class) (t : Tree) : Type 0 where
    pub strings : List (List ℕ)
    pub characters : Tree
    pub by_length : AreByLength strings (class_value e c).others
    pub takes : Takes characters (closed table unicode e.icase (class_value e c).singles)
    pub arms : HasArms (class_arms e.icase strings characters (among (class_value e c).others [])) t

  mutual
    -- A pattern is lowered: the direction in which it is read, its settings, the groups opened before it, the pattern, the tree,
    -- and the groups opened up to its end.
    pub data Lowers : Bool → Settings → ℕ → Pattern → Tree → ℕ → Type 0 where
      of_character : {b : Bool} {e : Settings} {k c : ℕ} {t : Tree} → Takes t (same table unicode e.icase c) → Lowers b e k (meaning.character c) t k
      of_any : {b : Bool} {e : Settings} {k : ℕ} {t : Tree} → Takes t (λ c. e.dot_all || not (is_line_end c)) → Lowers b e k meaning.any t k
      of_class : {b : Bool} {e : Settings} {k : ℕ} {c : Class} {t : Tree} → LowersClass e c t → Lowers b e k (meaning.class false c) t k
      of_negated_class : {b : Bool} {e : Settings} {k : ℕ} {c : Class} {t : Tree} → Takes t (λ d. not (closed table unicode e.icase (class_value e c).singles d))
          → Lowers b e k (meaning.class true c) t k
      of_class_escape : {b : Bool} {e : Settings} {k : ℕ} {c : Class} {t : Tree} → LowersClass e c t → Lowers b e k (meaning.class_escape c) t k
      of_terms : {b : Bool} {e : Settings} {k l : ℕ} {ps : List Pattern} {ts : List Tree} → LowersTerms b e k ps ts l
          → Lowers b e k (sequence_of ps) (cat_made (in_reading_order b ts)) l
      of_arms : {b : Bool} {e : Settings} {k l : ℕ} {ps : List Pattern} {ts : List Tree} {t : Tree} → LowersAll b e k ps ts l → HasArms ts t
          → Lowers b e k (choice_of ps) t l
      of_capture : {b : Bool} {e : Settings} {k l j : ℕ} {name : Option (List ℕ)} {p : Pattern} {t : Tree} → IfSome name (λ text. text ≢ []) → Lowers b e (suc k) p t l
          → Lowers b e k (meaning.capture j name p) (capture j name t) l
      of_group : {b : Bool} {e : Settings} {k l : ℕ} {p : Pattern} {t : Tree} → Lowers b e k p t l → Lowers b e k (meaning.grouped p) t l
      of_modified : {b : Bool} {e on off : Settings} {k l : ℕ} {p : Pattern} {t : Tree} → Lowers b (with on off e) k p t l
          → Lowers b e k (meaning.modified on off p) t l
      of_repeated : {b : Bool} {e : Settings} {k l first last least most : ℕ} {greedy : Bool} {p : Pattern} {t : Tree} → Lowers b e k p t l
          → Lowers b e k (meaning.repeated p first last least most greedy) (loop t first last least most greedy) l
      of_look : {b : Bool} {e : Settings} {k l : ℕ} {negated backward : Bool} {p : Pattern} {t : Tree} → Lowers backward e k p t l
          → Lowers b e k (meaning.look negated backward p) (submatch (lookaround negated backward) k l t) l
      of_atomic : {b : Bool} {e : Settings} {k l : ℕ} {p : Pattern} {t : Tree} → Lowers b e k p t l → Lowers b e k (meaning.atomic p) (submatch atomic k l t) l
      of_reference : {b : Bool} {e : Settings} {k : ℕ} {ks : List ℕ}
          → Lowers b e k (meaning.reference ks) (cat_made (map (λ j. back (j + 1) e.icase) (in_reading_order b ks))) k
      of_line_start : {b : Bool} {e : Settings} {k : ℕ} → Lowers b e k meaning.line_start (line_start e.multiline) k
      of_line_end : {b : Bool} {e : Settings} {k : ℕ} → Lowers b e k meaning.line_end (line_end e.multiline) k
      of_word_boundary : {b : Bool} {e : Settings} {k : ℕ} {negated : Bool}
          → Lowers b e k (meaning.word_boundary negated) (boundary negated (unicode && e.icase)) k

    -- Patterns are lowered one by one.
    pub data LowersAll : Bool → Settings → ℕ → List Pattern → List Tree → ℕ → Type 0 where
      no_pattern : {b : Bool} {e : Settings} {k : ℕ} → LowersAll b e k [] [] k
      and_next : {b : Bool} {e : Settings} {k l n : ℕ} {p : Pattern} {ps : List Pattern} {t : Tree} {ts : List Tree} → Lowers b e k p t l
          → LowersAll b e l ps ts n → LowersAll b e k (p ∷ ps) (t ∷ ts) n

    -- The same of terms one after another, where characters side by side may be lowered together: to the pieces of their text,
    -- which stand in its order either way.
    pub data LowersTerms : Bool → Settings → ℕ → List Pattern → List Tree → ℕ → Type 0 where
      no_term : {b : Bool} {e : Settings} {k : ℕ} → LowersTerms b e k [] [] k
      next_term : {b : Bool} {e : Settings} {k l n : ℕ} {p : Pattern} {ps : List Pattern} {t : Tree} {ts : List Tree} → Lowers b e k p t l
          → LowersTerms b e l ps ts n → LowersTerms b e k (p ∷ ps) (t ∷ ts) n
      next_text : {b : Bool} {e : Settings} {k n : ℕ} {cs : List ℕ} {ps : List Pattern} {us ts : List Tree} → ArePieces e.icase cs us → LowersTerms b e k ps ts n
          → LowersTerms b e k (map meaning.character cs ++ ps) (us ++ ts) n

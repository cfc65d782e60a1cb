-- The scan for groups, one step after another.
use Rattle.std.proofs.Common.{◌≡◌, ℕ, zero, suc, ◌+◌, ◌-◌, ◌≤◌, ◌==◌, not, Bool, true, false, List, [], ◌∷◌, ◌++◌, length, drop, map, Option, Some, None, String, Global, refl, sym, ap, subst, ◌∙◌, arith, append_assoc, eq-eqb}
use Rattle.std.specs.Prelude.{if◌then◌else◌, option_map, unwrap_or}
use Rattle.std.specs.Global.{Vec}
use Rattle.std.proofs.lemmas.List.{map_push}
use Rattle.std.proofs.lemmas.Bool.{cond_both, ne_eqb}
use Rattle.regress_meaning.specs.Text.{is_at}
use Rattle.regress_meaning.specs.Table.{Table}
use Rattle.regress_meaning.specs.Tokens.{guard, name_at}
use Rattle.regress_meaning.specs.Grammar.{opens_name, holds_a_name}
use Rattle.regress_meaning.specs.Scan.{opened_groups, group_names}
use Rattle.regress_meaning.proofs.ScanWords.{Behind, here, past, behind_trans, name-ends}
use Rattle.regress_front_tokens.specs.Escapes.{texts}
use Rattle.regress_front_tokens.specs.Words.{code_points_of}

-- whether a scan stands in a class behind c
abbrev pub class_behind : Bool → ℕ → Bool
class_behind in_class c = if in_class then not (c == 0x5D) else c == 0x5B

-- what is passed over behind c
abbrev pub skipped : ℕ → List ℕ → List ℕ
skipped c t = if c == 0x5C then drop 1 t else t

holds-passed : (b p : Bool) (t : List ℕ) → holds_a_name b p t ≡ holds_a_name b false (if p then drop 1 t else t)
unfolding holds_a_name
holds-passed b false t = refl
holds-passed b true [] = refl
holds-passed b true (c ∷ t) = refl

-- one code point of the scan for a name
pub holds-step : (in_class : Bool) (c : ℕ) (t : List ℕ) → (in_class ≡ false → opens_name (c ∷ t) ≡ false) → holds_a_name in_class false (c ∷ t) ≡ holds_a_name (class_behind in_class c) false (skipped c t)
unfolding holds_a_name
holds-step true c t h = holds-passed (not (c == 0x5D)) (c == 0x5C) t
holds-step false c t h = rw (h refl) (holds-passed (c == 0x5B) (c == 0x5C) t)

pub holds-end : (in_class : Bool) (t : List ℕ) → t ≡ [] → holds_a_name in_class false t ≡ false
unfolding holds_a_name
holds-end in_class t e = rw e refl

pub holds-found : (t : List ℕ) → opens_name t ≡ true → holds_a_name false false t ≡ true
unfolding holds_a_name
holds-found [] e = cc
holds-found (c ∷ t) e = rw e refl

-- r stands so many code points behind t
record Dropped (t r : List ℕ) : Type 0 where
  count : ℕ
  rest : drop count t ≡ r
  whole : count + length r ≡ length t

dropped-from_behind : {t r : List ℕ} → Behind t r → Dropped t r
dropped-from_behind here = record { count = 0; rest = refl; whole = omega arith }
dropped-from_behind (past p) = let d = dropped-from_behind p in record { count = suc d.count; rest = d.rest; whole = omega (arith, d.whole) }

-- code points that are passed over
names-passed : (table : Table) (named b : Bool) (n : ℕ) (t : List ℕ) → group_names table named b n t ≡ group_names table named b 0 (drop n t)
unfolding group_names
names-passed table named b zero t = refl
names-passed table named b (suc n) [] = refl
names-passed table named b (suc n) (c ∷ t) = names-passed table named b n t

pub names-end : (table : Table) (named b : Bool) (t : List ℕ) → t ≡ [] → group_names table named b 0 t ≡ []
unfolding group_names
names-end table named b t e = rw e refl

-- one code point in a class
drop-skipped : (b : Bool) (t : List ℕ) → drop (if b then 1 else 0) t ≡ (if b then drop 1 t else t)
drop-skipped true t = refl
drop-skipped false t = refl

pub names-in_class : (table : Table) (named : Bool) (c : ℕ) (t : List ℕ) → group_names table named true 0 (c ∷ t) ≡ group_names table named (class_behind true c) 0 (skipped c t)
unfolding group_names
names-in_class table named c t =
    names-passed table named (not (c == 0x5D)) (if c == 0x5C then 1 else 0) t ∙ ap (group_names table named (not (c == 0x5D)) 0) (drop-skipped (c == 0x5C) t)

drop-behind : (n : ℕ) (t : List ℕ) → Behind t (drop n t)
drop-behind zero t = here
drop-behind (suc n) [] = here
drop-behind (suc n) (c ∷ t) = past (drop-behind n t)

-- a name that stands two code points on ends behind t
name-behind : (table : Table) (t : List ℕ) {x : List ℕ × List ℕ} → name_at table (drop 2 t) ≡ Some x → Behind t x.1
name-behind table t e = behind_trans (drop-behind 2 t) ((name-ends table (drop 2 t)).holds e)

escape-behind : (b : Bool) (t : List ℕ) (o : Option (List ℕ × List ℕ)) → ((x : List ℕ × List ℕ) → o ≡ Some x → Behind t x.1) → Behind t (unwrap_or (guard b (option_map (λ (name, r). r) o)) (drop 1 t))
escape-behind true t (Some x) h = h x refl
escape-behind true t None h = drop-behind 1 t
escape-behind false t o h = drop-behind 1 t

group-behind : (t : List ℕ) (o : Option (List ℕ × List ℕ)) → ((x : List ℕ × List ℕ) → o ≡ Some x → Behind t x.1) → Behind t (unwrap_or (option_map {U = List (List ℕ) × List ℕ} (λ (name, r). (name ∷ [], r)) o) ([], t)).1
group-behind t (Some x) h = h x refl
group-behind t None h = here

-- what c opens leads to an end of the text
opened-behind : (table : Table) (named : Bool) (c : ℕ) (t : List ℕ) → Behind t (opened_groups table named c t).1
opened-behind table named c t =
    let Ends = λ (p : List (List ℕ) × List ℕ). Behind t p.1 in
    cond_both (c == 0x5C) _ _ Ends (λ _. escape-behind _ t (name_at table (drop 2 t)) (λ x. name-behind table t))
    (λ _. cond_both (not (c == 0x28)) _ _ Ends (λ _. here)
    (λ _. cond_both (not (is_at (λ d. d == 0x3F) t)) _ _ Ends (λ _. here)
    (λ _. cond_both (opens_name (c ∷ t)) _ _ Ends (λ _. group-behind t (name_at table (drop 2 t)) (λ x. name-behind table t)) (λ _. here))))

-- one code point outside, with what it opens
pub names-outside : (table : Table) (named : Bool) (c : ℕ) (t r : List ℕ) (names : List (List ℕ)) → opened_groups table named c t ≡ (names, r) →
    group_names table named false 0 (c ∷ t) ≡ names ++ group_names table named (class_behind false c) 0 r
unfolding group_names
names-outside table named c t r names e =
    let behind = dropped-from_behind (subst (Behind t) (ap (λ (p : List (List ℕ) × List ℕ). p.1) e) (opened-behind table named c t)) in
    let count : length t - length r ≡ behind.count = omega (arith, behind.whole) in
    let there = names-passed table named (c == 0x5B) (length t - length r) t in
    let rest : drop (length t - length r) t ≡ r = rw count behind.rest in
    rw e (ap (λ (found : List (List ℕ)). names ++ found) (there ∙ ap (group_names table named (c == 0x5B) 0) rest))

pub skipped-backslash : (c : ℕ) (t : List ℕ) → c ≡ 0x5C → skipped c t ≡ drop 1 t
skipped-backslash c t e = rw (eq-eqb c 0x5C e) refl

pub skipped-other : (c : ℕ) (t : List ℕ) → (c ≡ 0x5C → ⊥) → skipped c t ≡ t
skipped-other c t other = rw (ne_eqb c 0x5C other) refl

-- what is opened leaves no more than the text
pub opened-shorter : (table : Table) (named : Bool) (c : ℕ) (t r : List ℕ) (names : List (List ℕ)) → opened_groups table named c t ≡ (names, r) → length r ≤ length t
opened-shorter table named c t r names e =
    let behind = dropped-from_behind (subst (Behind t) (ap (λ (p : List (List ℕ) × List ℕ). p.1) e) (opened-behind table named c t)) in
    omega (arith, behind.whole)

-- The names found so far, with those from t on, are all of them.
module _ (table : Table) (named : Bool) (all : List (List ℕ)) (old : Vec (String Global)) (c : ℕ) (t r : List ℕ) (next : t ≡ c ∷ r) where
  pub found-in_class : all ≡ texts old ++ group_names table named true 0 t → all ≡ texts old ++ group_names table named (class_behind true c) 0 (skipped c r)
  found-in_class h = h ∙ ap (λ (found : List (List ℕ)). texts old ++ found) (ap (group_names table named true 0) next ∙ names-in_class table named c r)

  module _ (u : List ℕ) where
    pub found-nothing : all ≡ texts old ++ group_names table named false 0 t → opened_groups table named c r ≡ ([], u) → all ≡ texts old ++ group_names table named (class_behind false c) 0 u
    found-nothing h e = h ∙ ap (λ (found : List (List ℕ)). texts old ++ found) (ap (group_names table named false 0) next ∙ names-outside table named c r u [] e)

    pub found-name : (new : Vec (String Global)) (name : String Global) → all ≡ texts old ++ group_names table named false 0 t → opened_groups table named c r ≡ (code_points_of name ∷ [], u) → new.items ≡ old.items ++ (name ∷ []) →
        all ≡ texts new ++ group_names table named (class_behind false c) 0 u
    found-name new name h e pushed =
        h ∙ ap (λ (found : List (List ℕ)). texts old ++ found) (ap (group_names table named false 0) next ∙ names-outside table named c r u (code_points_of name ∷ []) e)
        ∙ sym (ap (λ (ns : List (String Global)). map code_points_of ns ++ group_names table named (class_behind false c) 0 u) pushed ∙ rw (map_push, append_assoc) refl)

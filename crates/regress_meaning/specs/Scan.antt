-- The names of a text's groups, found by a scan of it before its tree is known.
use Rattle.std.specs.Prelude.{ℕ, zero, suc, ◌-◌, Bool, true, false, not, ◌&&◌, ◌==◌, nat_eq, List, [], ◌∷◌, ◌++◌, length, drop, option_map, unwrap_or, if◌then◌else◌}
use Rattle.std.specs.List.{starts_with}
use lib.Chars.{codes}
use Rattle.regress_meaning.specs.Text.{is_at}
use Rattle.regress_meaning.specs.Table.{Table}
use Rattle.regress_meaning.specs.Flags.{Options}
use Rattle.regress_meaning.specs.Tokens.{guard, name_at}
use Rattle.regress_meaning.specs.Grammar.{opens_name, mode_of}

-- Behind a backslash outside a class: what follows the code point that is passed over with it, or a whole `k<name>`, where
-- names are read.
abbrev pub after_escape : Table → (named : Bool) → List ℕ → List ℕ
after_escape table named t =
    unwrap_or (guard (named && starts_with nat_eq t (codes "k<")) (option_map (λ (name, r). r) (name_at table (drop 2 t)))) (drop 1 t)

-- What c begins outside a class, with t behind it: the names of the groups that it opens, at most one, and what follows.
abbrev pub opened_groups : Table → (named : Bool) → ℕ → List ℕ → List (List ℕ) × List ℕ
opened_groups table named c t =
    if c == 0x5C then ([], after_escape table named t)
    else if not (c == 0x28) then ([], t)
    else if not (is_at (λ d. d == 0x3F) t) then ([] ∷ [], t)
    else if opens_name (c ∷ t) then unwrap_or (option_map (λ (name, r). (name ∷ [], r)) (name_at table (drop 2 t))) ([], t)
    else ([], t)

-- The name of each group that a text opens, in order, empty where it has none; `named`: names are read, `passed`: so many
-- code points are still passed over. Brackets inside a class with `v` are not paired: no bare `(` stands among them.
unfoldable pub group_names : Table → (named in_class : Bool) → (passed : ℕ) → List ℕ → List (List ℕ)
group_names table named in_class passed [] = []
group_names table named in_class (suc n) (c ∷ t) = group_names table named in_class n t
group_names table named true zero (c ∷ t) = group_names table named (not (c == 0x5D)) (if c == 0x5C then 1 else 0) t
group_names table named false zero (c ∷ t) =
    let (names, r) = opened_groups table named c t in names ++ group_names table named (c == 0x5B) (length t - length r) t

-- the names of the groups of a whole text
abbrev pub scanned_names : Table → Options → List ℕ → List (List ℕ)
scanned_names table o text = group_names table (mode_of table o text []).named false 0 text

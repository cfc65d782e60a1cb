-- The keys of properties, the texts between the braces of `\p{..}`, and the sets that they stand for.
use Rattle.std.specs.Prelude.{ℕ, Bool, List, [], ◌∷◌, ◌++◌, map, codes, string_bytes}
use Rattle.std.specs.Prelude as std
use Prim.Native.String.{String}
use Rattle.ucd_sets.specs.Names.{script_names}
use Rattle.ucd_sets.specs.declared.set.Set.{Set}
use Rattle.ucd_sets.specs.declared.set.Set.TheVariants.{Script, ScriptExtension}
use Rattle.ucd_sets.specs.Sets.{in_set}
use Rattle.regress_unicode.specs.Casefold.{changes_when_nfkc_casefolded}
use Rattle.regress_unicode.specs.Names.{binary_names, category_names}

-- the names behind a text, each with the set that its value stands for
abbrev pub behind : {V : Type 0} → (V → Set) → List ℕ → List (List ℕ × V) → List (List ℕ × Set)
behind set front names = map (λ n. (front ++ n.0, set n.1)) names

-- names as their characters
abbrev pub spelled : {V : Type 0} → List (String × V) → List (List ℕ × V)
spelled names = map (λ n. (codes n.0, n.1)) names

-- Every key of a set of Unicode's data: binary properties and general categories alone, and the values of the three properties that have some.
unfoldable pub unicode_keys : List (List ℕ × Set)
unicode_keys =
    behind (λ set. set) (codes "") (spelled binary_names)
    ++ behind (λ set. set) (codes "") (spelled category_names)
    ++ behind (λ set. set) (codes "gc=") (spelled category_names)
    ++ behind (λ set. set) (codes "General_Category=") (spelled category_names)
    ++ behind Script (codes "sc=") (spelled script_names)
    ++ behind Script (codes "Script=") (spelled script_names)
    ++ behind ScriptExtension (codes "scx=") (spelled script_names)
    ++ behind ScriptExtension (codes "Script_Extensions=") (spelled script_names)

-- a key and its set, and a name and its value, as they stand in lists of the code
abbrev pub shown : {Z : Type 0} → std.String Z × Set → List ℕ × Set
shown e = (string_bytes e.0, e.1)

-- these keys, each with the test that the code points of its set pass
abbrev pub key_sets : List (List ℕ × (ℕ → Bool))
key_sets = map (λ k. (k.0, in_set k.1)) unicode_keys

-- Every key with its test: those, and the binary property that no set of Unicode's data is.
abbrev pub unicode_properties : List (List ℕ × (ℕ → Bool))
unicode_properties =
    key_sets ++ (codes "Changes_When_NFKC_Casefolded", changes_when_nfkc_casefolded) ∷ (codes "CWKCF", changes_when_nfkc_casefolded) ∷ []

-- The lists of groups under their names, one after another shared.
use Rattle.std.proofs.Common.{◌≡◌, ℕ, Bool, true, false, cond, List, [], ◌++◌, Option, Some, None, Vec, Global, String, string_bytes, inl, inr, refl, sym, ap, ◌∙◌, append-nil}
use Rattle.std.specs.Prelude.{◌⊎◌}
use Rattle.std.specs.BTreeMap.{BTreeMap, get_by_text, Updates}
use Rattle.std.specs.Option.{option_map_or}
use Rattle.std.specs.Rc.{rc_slice_items}
use Rattle.std.specs.Str.{bytes_eq}
use Rattle.std.specs.String.{string_cmp}
use Rattle.std.specs.declared.rc.RcSlice.{RcSlice}
use Rattle.std.proofs.lemmas.Map.Text.{btree_map_updates_text}
use Rattle.std.proofs.lemmas.Slice.Eq.{bytes_eq-Decides}

-- A list, all of it, is shared or still to be, not both.
abbrev pub AreApart : Option (RcSlice ℕ Global) → Option (Vec ℕ Global) → List ℕ → Type 0
AreApart shared listed all = (option_map_or rc_slice_items shared [] ++ option_map_or (λ numbers. numbers.items) listed [] ≡ all)
    × ((shared ≡ None) ⊎ (listed ≡ None))

-- no list that is still to be shared is shared
not-yet : (one : RcSlice ℕ Global) (list : Vec ℕ Global) (listed : Option (Vec ℕ Global)) → listed ≡ Some list → (Some one ≡ None) ⊎ (listed ≡ None) → ⊥
not-yet one list listed is (inl none) = cc
not-yet one list listed is (inr none) = cc

-- the list of this name is shared now, and that of another is as it was
shared-one : (same : Bool) (shared : Option (RcSlice ℕ Global)) (listed : Option (Vec ℕ Global)) (all : List ℕ) (list : Vec ℕ Global) (made : RcSlice ℕ Global)
    → (same ≡ true → listed ≡ Some list) → rc_slice_items made ≡ list.items → AreApart shared listed all → AreApart (cond same (Some made) shared) (cond same None listed) all
shared-one false shared listed all list made is items apart = apart
shared-one true None listed all list made is items apart = (append-nil (rc_slice_items made) ∙ items ∙ (rw (is refl) at apart.0), inr refl)
shared-one true (Some one) listed all list made is items apart = absurd (not-yet one list listed (is refl) apart.1)

-- the first list is shared: it is no longer to be
pub next-shared : (lists fewer : BTreeMap (String Global) (Vec ℕ Global)) (numbers more : BTreeMap (String Global) (RcSlice ℕ Global)) (first : String Global) (list : Vec ℕ Global)
    (made : RcSlice ℕ Global) (all name : List ℕ) → get_by_text lists (string_bytes first) ≡ Some list → rc_slice_items made ≡ list.items
    → Updates string_cmp lists fewer first None → Updates string_cmp numbers more first (Some made)
    → AreApart (get_by_text numbers name) (get_by_text lists name) all → AreApart (get_by_text more name) (get_by_text fewer name) all
next-shared lists fewer numbers more first list made all name found items taken put apart =
    let same = bytes_eq (string_bytes first) name in
    let here : same ≡ true → get_by_text lists name ≡ Some list = λ e. ap (get_by_text lists) (sym ((bytes_eq-Decides (string_bytes first) name).0 e)) ∙ found in
    rw (btree_map_updates_text (string_bytes first) lists fewer None taken name, btree_map_updates_text (string_bytes first) numbers more (Some made) put name)
    (shared-one same _ _ all list made here items apart)

-- What values of classes are made of.
use Rattle.std.proofs.Common.{◌≡◌, ℕ, zero, suc, ◌+◌, ◌<◌, Bool, true, false, ◌||◌, not, ◌==◌, All, Option, None, Some, unwrap_or, List, [], ◌∷◌, ◌++◌, length, get_or, map, fold, take, refl, sym, ap, subst, ◌∙◌, arith, append-nil}
use Rattle.std.proofs.Math.Path.{fun_ext}
use Rattle.std.proofs.lemmas.List.Sums.{fold-append}
use Rattle.std.proofs.lemmas.List.{append_assoc, take_more, map-append}
use Rattle.regress_meaning.specs.Table.{Table}
use Rattle.regress_meaning.specs.Class as meaning
use Rattle.regress_meaning.specs.Class.{Strings, only, value_of, among}
use Rattle.regress_meaning.specs.TableParts.{is_code_point}
use Rattle.regress_front_tables.specs.declared.tables.Tables.{Tables}
use Rattle.regress_front_tables.specs.TableViews.{table}
use Rattle.regress_meaning.specs.Points.{ClassIsOfPoints}
use Rattle.regress_front_tokens.specs.declared.syntax.Class.{Class}
use Rattle.regress_front_tokens.specs.Trees.{class_view, union_of}
use Rattle.std.proofs.lemmas.List.Elements.{All-nil, All-cons, All-head, All-tail, All-append, All-filter}
use Rattle.regress_front_class_values.specs.ClassValues.{strings_of, united, all_united}
use Rattle.regress_front_class_values.specs.declared.value.ClassValue.{ClassValue}
use Rattle.regress_front_class_values.proofs.ClassLemmas.{entry-all}
use Rattle.std.proofs.Math.Bool.{or-false, or_assoc}

pub united-none : (v : Strings) → united v (record { singles = λ c. false; others = [] }) ≡ v
united-none v =
    let singles : (c : ℕ) → (v.singles c || false) ≡ v.singles c = λ c. or-false (v.singles c) in
    λ i. record { singles = fun_ext singles i; others = append-nil v.others i }

united-assoc : (u v w : Strings) → united u (united v w) ≡ united (united u v) w
united-assoc u v w =
    let singles : (c : ℕ) → (u.singles c || (v.singles c || w.singles c)) ≡ ((u.singles c || v.singles c) || w.singles c) = λ c. sym (or_assoc (u.singles c) (v.singles c) (w.singles c)) in
    let others : u.others ++ (v.others ++ w.others) ≡ (u.others ++ v.others) ++ w.others = sym (append_assoc u.others v.others w.others) in
    λ i. record { singles = fun_ext singles i; others = others i }

-- one value more
pub all_united-push : (values : List ClassValue) (v : ClassValue) → all_united (values ++ v ∷ []) ≡ united (all_united values) (strings_of v)
all_united-push values v =
    let none = only (λ (c : ℕ). false) in
    ap (fold united none) (map-append strings_of values (v ∷ [])) ∙ fold-append united none (map strings_of values) (strings_of v ∷ [])

-- the last value is joined to another
pub all_united-joined : (values rest : List ClassValue) (last value all : ClassValue) → values ≡ rest ++ last ∷ [] → strings_of all ≡ united (strings_of last) (strings_of value)
    → united (all_united rest) (strings_of all) ≡ united (all_united values) (strings_of value)
all_united-joined values rest last value all is joined =
    ap (united (all_united rest)) joined ∙ united-assoc (all_united rest) (strings_of last) (strings_of value)
    ∙ ap (λ (v : Strings). united v (strings_of value)) (sym (ap all_united is ∙ all_united-push rest last))

-- one class more beside others
pub value_of-push : (table : Table) (folded : Bool) (cs : List meaning.Class) (c : meaning.Class)
    → value_of table folded (union_of (cs ++ c ∷ [])) ≡ united (value_of table folded (union_of cs)) (value_of table folded c)
unfolding value_of
value_of-push table folded [] c = united-none (value_of table folded c)
value_of-push table folded (d ∷ cs) c =
    ap (united (value_of table folded d)) (value_of-push table folded cs c)
    ∙ united-assoc (value_of table folded d) (value_of table folded (union_of cs)) (value_of table folded c)

pub value_of-more : (table : Table) (folded : Bool) (members : List Class) (k : ℕ) (m : Class) → k < length members → m ≡ get_or members k m
    → value_of table folded (union_of (map class_view (take (k + 1) members))) ≡ united (value_of table folded (union_of (map class_view (take k members)))) (value_of table folded (class_view m))
value_of-more table folded members k m inside is =
    ap (λ (ms : List Class). value_of table folded (union_of (map class_view ms))) (take_more members k m inside ∙ ap (λ (x : Class). take k members ++ x ∷ []) (sym is))
    ∙ ap (λ (cs : List meaning.Class). value_of table folded (union_of cs)) (map-append class_view (take k members) (m ∷ []))
    ∙ value_of-push table folded (map class_view (take k members)) (class_view m)

-- each of the classes side by side is of code points
pub union_points : (members : List Class) (k : ℕ) (m : Class) → ClassIsOfPoints (union_of (map class_view members)) → k < length members → m ≡ get_or members k m
    → ClassIsOfPoints (class_view m)
union_points [] k m points inside is = absurd (omega arith)
union_points (x ∷ members) zero m points inside is = subst (λ (y : Class). ClassIsOfPoints (class_view y)) (sym is) points.0
union_points (x ∷ members) (suc k) m points inside is = union_points members k m points.1 (omega arith) is

-- one class more behind those that are joined
pub fold-more : (f : meaning.Class → meaning.Class → meaning.Class) (a : meaning.Class) (members : List Class) (k : ℕ) (m : Class) → k < length members → m ≡ get_or members k m
    → fold f a (map class_view (take (k + 1) members)) ≡ f (fold f a (map class_view (take k members))) (class_view m)
fold-more f a members k m inside is =
    ap (λ (ms : List Class). fold f a (map class_view ms)) (take_more members k m inside ∙ ap (λ (x : Class). take k members ++ x ∷ []) (sym is))
    ∙ ap (λ (cs : List meaning.Class). fold f a cs) (map-append class_view (take k members) (m ∷ []))
    ∙ fold-append f a (map class_view (take k members)) (class_view m ∷ [])

-- of joined classes the first and each other are of code points
pub first_points : (f : meaning.Class → meaning.Class → meaning.Class) → ((x y : meaning.Class) → ClassIsOfPoints (f x y) → ClassIsOfPoints x × ClassIsOfPoints y)
    → (a : meaning.Class) (cs : List meaning.Class) → ClassIsOfPoints (fold f a cs) → ClassIsOfPoints a
first_points f parts a [] h = h
first_points f parts a (c ∷ cs) h = (parts a c (first_points f parts (f a c) cs h)).0

pub other_points : (f : meaning.Class → meaning.Class → meaning.Class) → ((x y : meaning.Class) → ClassIsOfPoints (f x y) → ClassIsOfPoints x × ClassIsOfPoints y)
    → (a : meaning.Class) (cs : List meaning.Class) → ClassIsOfPoints (fold f a cs) → All ClassIsOfPoints cs
other_points f parts a [] h = All-nil ClassIsOfPoints
other_points f parts a (c ∷ cs) h =
    All-cons ClassIsOfPoints c cs (parts a c (first_points f parts (f a c) cs h)).1 (other_points f parts (f a c) cs h)

-- one of some classes that are of code points
pub one_points : (members : List Class) (k : ℕ) (m : Class) → All ClassIsOfPoints (map class_view members) → k < length members → m ≡ get_or members k m
    → ClassIsOfPoints (class_view m)
one_points [] k m points inside is = absurd (omega arith)
one_points (x ∷ members) zero m points inside is =
    subst (λ (y : Class). ClassIsOfPoints (class_view y)) (sym is) (All-head ClassIsOfPoints (class_view x) (map class_view members) points)
one_points (x ∷ members) (suc k) m points inside is = one_points members k m (All-tail ClassIsOfPoints (class_view x) (map class_view members) points) (omega arith) is

unwrapped : (P : List (List ℕ) → Type 0) (o : Option (List (List ℕ))) → ((ss : List (List ℕ)) → o ≡ Some ss → P ss) → P [] → P (unwrap_or o [])
unwrapped P None h none = none
unwrapped P (Some ss) h none = h ss refl

-- The strings of a class of code points are of code points.
pub value-points : (tables : Tables) (folded : Bool) (c : meaning.Class) → ClassIsOfPoints c → All (All is_code_point) (value_of (table tables) folded c).others
unfolding value_of
value-points tables folded meaning.no_string h = All-nil (All is_code_point)
value-points tables folded (meaning.range first last) h = All-nil (All is_code_point)
value-points tables folded meaning.digits h = All-nil (All is_code_point)
value-points tables folded meaning.spaces h = All-nil (All is_code_point)
value-points tables folded meaning.words h = All-nil (All is_code_point)
value-points tables folded (meaning.property key) h = All-nil (All is_code_point)
value-points tables folded (meaning.sequences key) h =
    let strings = unwrap_or ((table tables).sequences key) [] in
    let points : All (All is_code_point) strings = unwrapped (All (All is_code_point)) ((table tables).sequences key)
    (λ ss e. entry-all (All (All is_code_point)) _ key ss tables.lawful.range.1 e) (All-nil (All is_code_point)) in
    All-filter (λ s. not (length s == 1)) (All is_code_point) strings points
value-points tables folded (meaning.strings ss) h = All-filter (λ s. not (length s == 1)) (All is_code_point) ss h
value-points tables folded (meaning.union a b) h = All-append (All is_code_point) _ _ (value-points tables folded a h.0) (value-points tables folded b h.1)
value-points tables folded (meaning.intersection a b) h = All-filter (among (value_of (table tables) folded b).others) (All is_code_point) _ (value-points tables folded a h.0)
value-points tables folded (meaning.difference a b) h =
    All-filter (λ s. not (among (value_of (table tables) folded b).others s)) (All is_code_point) _ (value-points tables folded a h.0)
value-points tables folded (meaning.complement a) h = All-nil (All is_code_point)
value-points tables folded (meaning.nested true a) h = All-nil (All is_code_point)
value-points tables folded (meaning.nested false a) h = value-points tables folded a h

use Rattle.std.proofs.Common.{ℕ, ◌≡◌, ◌==◌, ◌||◌, sym, ap, ap₂, Bool, Vec, Global, length, ◌≤◌, ◌∙◌, ◌++◌, [], ◌∷◌, List, get_or, arith, take}
use Rattle.std.proofs.lemmas.Bool.{ne_eqb}
use Rattle.std.proofs.lemmas.List.{map-append}
use Rattle.std.proofs.lemmas.List.Elements.{All-get_or}
use Rattle.regress_meaning.specs.TableParts.{is_code_point}
use Rattle.regress_meaning.specs.Class.{Strings, of_list}
use Rattle.regress_front_sets.specs.Sets.{in_set}
use Rattle.regress_front_class_values.specs.ClassValues.{lists, strings_of}
use Rattle.regress_front_class_values.proofs.ClassLemmas.{only-none, string-points, lists-more, of_list-single, of_list-other}
use Rattle.regress_front_class_values.proofs.value.ClassValue.of_strings.Goals as goal
use Rattle.regress_front_class_values.proofs.value.ClassValue.of_strings.Goals.{then-len-eq1+in_ok-try_add_one, else-len-eq1+in_ok-from_slice+in_ok-push}

pub loop-string-init : goal.loop-string-init
loop-string-init c = c.of_points-value.ensures ∙ only-none c.new.result c.new.ensures

pub try_add_one-requires : goal.try_add_one-requires
try_add_one-requires c =
    let points = string-points c.args.strings.now c.loop-string.string-index c.string-item.result c.requires (omega arith) c.string-item.is in
    let point : get_or c.string-item.result.items 0 c.index.result.now ≤ 1114111 = All-get_or is_code_point c.string-item.result.items 0 c.index.result.now (omega arith) points in
    omega (arith, point, c.index.ensures)

pub loop-string-preserved : goal.loop-string-preserved
loop-string-preserved c =
    let more = lists-more c.args.strings.now c.loop-string.string-index c.string-item.result (omega arith) c.string-item.is in
    let before = lists (take c.loop-string.string-index c.args.strings.now) in
    let string = c.string-item.result.items in
    let old = c.loop-string.value in
    let others : lists old.strings.items ≡ (of_list before).others = ap (λ (v : Strings). v.others) c.loop-string.invariant in
    elim c.if-len-eq1.branch [
      | then-len-eq1+in_ok-try_add_one w ↦
          let set = w.try_add_one.new.self in
          ap strings_of w.value-is
          ∙ ap {B = Strings} (λ (ss : List (List ℕ)). record { singles = in_set set; others = ss }) others
          ∙ of_list-single before string (in_set set) w.index.result.now (omega arith)
          (λ (d : ℕ). w.in_ok-try_add_one.ensures.members d
          ∙ ap (λ (b : Bool). b || (d == w.index.result.now)) (ap (λ (v : Strings). v.singles d) c.loop-string.invariant)
          ∙ ap (λ (x : ℕ). (of_list before).singles d || (d == x)) w.index.ensures)
          ∙ ap of_list (sym more)
      | else-len-eq1+in_ok-from_slice+in_ok-push w ↦
          let same : w.in_ok-from_slice.field-0.items ≡ string = w.in_ok-from_slice.ensures.items ∙ w.deref.ensures.value in
          let joined : lists w.push.new.self.items ≡ (of_list before).others ++ string ∷ [] =
          ap lists w.in_ok-push.ensures.items ∙ map-append (λ (s : Vec ℕ Global). s.items) old.strings.items (w.in_ok-from_slice.field-0 ∷ [])
          ∙ ap₂ (λ (ss : List (List ℕ)) (s : List ℕ). ss ++ s ∷ []) others same in
          ap strings_of w.value-is
          ∙ ap₂ {C = Strings} (λ (test : ℕ → Bool) (ss : List (List ℕ)). record { singles = test; others = ss }) (ap (λ (v : Strings). v.singles) c.loop-string.invariant) joined
          ∙ of_list-other before string (ne_eqb (length string) 1 (λ e. w.if-len-eq1.false (omega arith)))
          ∙ ap of_list (sym more)
    ]

use Rattle.std.proofs.Common.{◌≡◌, ◌≢◌, ◌≤◌, ℕ, List, [], ◌∷◌, length, get_or, All, Contains, refl, sym, ap, subst, ◌∙◌, arith}
use Rattle.std.proofs.lemmas.List.{map-append, length-map}
use Rattle.regress_meaning.specs.TableParts.{image, is_code_point}
use Rattle.regress_front_tables.specs.Classes.{members_of}
use Rattle.regress_front_tables.specs.Folding.{place_in}
use Rattle.regress_front_tables.proofs.SharedLemmas.{AreListed, AreListed-none, AreListed-more, place_in-bounded, IsClass-listed}
use Rattle.regress_front_tables.proofs.tables.classes.Classes.new.Goals as goal

pub loop-to-init : goal.loop-to-init
loop-to-init c = rw c.new-lists.ensures.items (AreListed-none c.args.pairs.now c.deref-to-items.result.now)

pub loop-to-preserved : goal.loop-to-preserved
loop-to-preserved c =
    let pairs = c.args.pairs.now in
    let images = c.deref-to-items.result.now in
    let AreOwn : List ℕ → Type 0 = λ ds. All (λ d. is_code_point d × (image pairs d ≡ d)) ds in
    let own = subst AreOwn (sym c.deref-to-items.ensures.value) c.in_ok-images.ensures.own in
    let members = c.in_ok-class_of.field-0 in
    let one_more = map-append (λ v. v.items) c.loop-to.lists.items (members ∷ []) in
    rw (c.in_ok-push.ensures.items, one_more)
    (AreListed-more pairs images c.loop-to.to-index (members_of c.loop-to.lists.items) members.items (get_or images c.loop-to.to-index 0) c.loop-to.invariant
    refl (own c.loop-to.to-index 0 c.loop-to-test.true).1 c.in_ok-class_of.ensures)

-- when the loop has gone over all images, their classes are listed
listed : (pairs : List (ℕ × ℕ)) (images : List ℕ) (lists : List (List ℕ)) (n : ℕ) → length images ≤ n → n ≤ length images
    → AreListed pairs images n lists → AreListed pairs images (length images) lists
listed pairs images lists n full within h =
    let AreListedTo : ℕ → Type 0 = λ k. AreListed pairs images k lists in
    let all : n ≡ length images = omega (arith, full, within) in
    subst AreListedTo all h

pub invariant_of-result : goal.invariant_of-result
invariant_of-result c =
    let pairs = c.args.pairs.now in
    let images = c.deref-to-items.result.now in
    let lists = c.loop-to.lists in
    let size = length-map lists.items (λ v. v.items) in
    let all = listed pairs images (members_of lists.items) c.loop-to.to-index c.loop-to-test.false c.loop-to.auto.to-index-end c.loop-to.invariant in
    let same = c.deref.ensures.value ∙ sym c.deref-to-items.ensures.value in
    record {
      numbered = λ d.
          omega (arith, c.in_ok-numbers.ensures d ∙ ap (λ ds. place_in ds d) same, place_in-bounded pairs images (members_of lists.items) all d, size, lists.ok.0);
    }

pub returns : goal.returns
returns c to =
    let pairs = c.args.pairs.now in
    let images = c.deref-to-items.result.now in
    let lists = members_of c.loop-to.lists.items in
    let all = listed pairs images lists c.loop-to.to-index c.loop-to-test.false c.loop-to.auto.to-index-end c.loop-to.invariant in
    let same = c.deref.ensures.value ∙ sym c.deref-to-items.ensures.value in
    let HaveAll : List ℕ → Type 0 = λ ds. (d : ℕ) → image pairs d ≢ d → Contains ds (image pairs d) in
    let have = subst HaveAll (sym c.deref-to-items.ensures.value) c.in_ok-images.ensures.all in
    IsClass-listed pairs images lists all have to _ (c.in_ok-numbers.ensures to ∙ ap (λ ds. place_in ds to) same)

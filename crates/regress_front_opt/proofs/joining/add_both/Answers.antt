use Rattle.std.proofs.Common.{◌≡◌, ◌+◌, false, ◌&&◌, [], ◌∷◌, ◌++◌, map, if◌then◌else◌, refl, sym, ap, ◌∙◌, arith}
use Rattle.std.proofs.lemmas.Bool.{and_right}
use Rattle.std.proofs.lemmas.List.{map-append}
use Rattle.regress_front_nodes.specs.declared.node.Node.TheVariants as N
use Rattle.regress_front_nodes.specs.Trees.{tree, bytes}
use Rattle.regress_front_nodes.proofs.TreeLaws.{tree-ByteSequence}
use Rattle.regress_front_rules.specs.NormalForm.{is_literal, literals_meet}
use Rattle.regress_front_opt.proofs.NodeKinds.{no-literal}
use Rattle.regress_front_opt.proofs.JoinLemmas.{two-pushed, joins-same, joins-one, meet-same, meet-apart}
use Rattle.regress_front_opt.proofs.joining.add_both.Goals as goal

pub returns-then-refused-clause-joined : goal.returns-then-refused-clause-joined
returns-then-refused-clause-joined c =
    let no = c.if-refused.ensures.negation in
    let first = rw no at c.append.ensures.items in
    let second = rw no at c.append.ensures.other_items in
    joins-same (map tree c.args.joined.now.items) _ (tree c.args.last) (tree c.args.part) _ _
    (two-pushed c.args.joined.now.items c.push_reserved.new.self.items c.push_reserved-then-refused.new.self.items (N.ByteSequence c.append.new.self) (N.ByteSequence c.append.new.other) c.push_reserved.ensures.items c.push_reserved-then-refused.ensures.items)
    (tree-ByteSequence c.append.new.self ∙ ap bytes first ∙ sym (ap tree c.in-ByteSequence.is ∙ tree-ByteSequence c.in-ByteSequence.first))
    (tree-ByteSequence c.append.new.other ∙ ap bytes second ∙ sym (ap tree c.in-ByteSequence-part.is ∙ tree-ByteSequence c.in-ByteSequence-part.second))

pub returns-else-refused-clause-joined : goal.returns-else-refused-clause-joined
returns-else-refused-clause-joined c =
    let yes = c.if-refused.ensures.negation in
    let both = rw yes at c.append.ensures.items in
    let pushed = ap (map tree) c.push_reserved.ensures.items ∙ map-append tree c.args.joined.now.items (N.ByteSequence c.append.new.self ∷ []) in
    joins-one (map tree c.args.joined.now.items) _ (tree c.args.last) (tree c.args.part) c.in-ByteSequence.first.items c.in-ByteSequence-part.second.items c.append.new.self.items
    (pushed ∙ ap (λ t. map tree c.args.joined.now.items ++ t ∷ []) (tree-ByteSequence c.append.new.self)) both
    (ap tree c.in-ByteSequence.is ∙ tree-ByteSequence c.in-ByteSequence.first) (ap tree c.in-ByteSequence-part.is ∙ tree-ByteSequence c.in-ByteSequence-part.second)

pub returns-else-refused-clause-apart : goal.returns-else-refused-clause-apart
returns-else-refused-clause-apart c = λ fine apart.
    let ts = map tree c.args.joined.now.items in
    let pushed = ap (map tree) c.push_reserved.ensures.items ∙ map-append tree c.args.joined.now.items (N.ByteSequence c.append.new.self ∷ []) in
    let last = ap tree c.in-ByteSequence.is ∙ tree-ByteSequence c.in-ByteSequence.first in
    ap literals_meet (pushed ∙ ap (λ t. ts ++ t ∷ []) (tree-ByteSequence c.append.new.self)) ∙ meet-same ts c.append.new.self.items c.in-ByteSequence.first.items
    ∙ ap (λ t. literals_meet (ts ++ t ∷ [])) (sym last) ∙ apart

pub returns-in_default-part : goal.returns-in_default-part
returns-in_default-part c =
    let ts = map tree c.args.joined.now.items in
    let pushed = two-pushed c.args.joined.now.items c.push_reserved-in_default-part.new.self.items c.push_reserved-in_default-part-2.new.self.items (N.ByteSequence c.in-ByteSequence.first) c.args.part
    c.push_reserved-in_default-part.ensures.items c.push_reserved-in_default-part-2.ensures.items in
    let last = sym (ap tree c.in-ByteSequence.is) in
    let none = no-literal c.args.part c.in_default-part.not-ByteSequence in
    record {
      joined = joins-same ts _ (tree c.args.last) (tree c.args.part) _ _ pushed last refl;
      apart = λ fine apart. ap literals_meet (pushed ∙ ap (λ t. ts ++ t ∷ tree c.args.part ∷ []) last) ∙ meet-apart ts (tree c.args.last) (tree c.args.part) (and_right (is_literal (tree c.args.last)) (is_literal (tree c.args.part)) none) apart;
      len = omega (arith, c.push_reserved-in_default-part.ensures.len, c.push_reserved-in_default-part-2.ensures.len);
      capacity = c.push_reserved-in_default-part-2.ensures.capacity ∙ c.push_reserved-in_default-part.ensures.capacity;
    }

pub returns-in_default : goal.returns-in_default
returns-in_default c =
    let ts = map tree c.args.joined.now.items in
    let pushed = two-pushed c.args.joined.now.items c.push_reserved-in_default.new.self.items c.push_reserved-in_default-2.new.self.items c.args.last c.args.part
    c.push_reserved-in_default.ensures.items c.push_reserved-in_default-2.ensures.items in
    let none = no-literal c.args.last c.in_default.not-ByteSequence in
    record {
      joined = joins-same ts _ (tree c.args.last) (tree c.args.part) _ _ pushed refl refl;
      apart = λ fine apart. ap literals_meet pushed ∙ meet-apart ts (tree c.args.last) (tree c.args.part) (ap (λ b. b && is_literal (tree c.args.part)) none) apart;
      len = omega (arith, c.push_reserved-in_default.ensures.len, c.push_reserved-in_default-2.ensures.len);
      capacity = c.push_reserved-in_default-2.ensures.capacity ∙ c.push_reserved-in_default.ensures.capacity;
    }

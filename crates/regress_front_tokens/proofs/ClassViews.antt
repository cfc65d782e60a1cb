-- The equations of `class_view`, one for each variant.
use Rattle.std.proofs.Common.{◌≡◌, ℕ, Bool, map, fold, Box, Global, sym, ap, ◌∙◌}
use Rattle.std.specs.Global.{Vec}
use Rattle.std.specs.declared.string.String.{String}
use Rattle.regress_meaning.specs.Class as meaning
use Rattle.regress_front_tokens.specs.Trees.{class_view, node_class, union_of}
use Rattle.regress_front_tokens.specs.Words.{code_points_of}
use Rattle.regress_front_tokens.specs.declared.syntax.Class.{Class, Class-F, fold-roll-Class}
use Rattle.regress_front_tokens.specs.declared.syntax.Class.TheVariants.{Range, Digits, Spaces, Words, Property, Sequences, Complement, Strings, Union, Intersection, Difference, Nested, rolls-Range, rolls-Digits, rolls-Spaces, rolls-Words, rolls-Property, rolls-Sequences, rolls-Complement, rolls-Strings, rolls-Union, rolls-Intersection, rolls-Difference, rolls-Nested}

pub class_view-Range : (first last : ℕ) → class_view (Range first last) ≡ meaning.range first last
class_view-Range first last = ap class_view (sym (rolls-Range first last)) ∙ fold-roll-Class meaning.Class node_class (Class-F.Range first last)

pub class_view-Digits : class_view Digits ≡ meaning.digits
class_view-Digits = ap class_view (sym rolls-Digits) ∙ fold-roll-Class meaning.Class node_class Class-F.Digits

pub class_view-Spaces : class_view Spaces ≡ meaning.spaces
class_view-Spaces = ap class_view (sym rolls-Spaces) ∙ fold-roll-Class meaning.Class node_class Class-F.Spaces

pub class_view-Words : class_view Words ≡ meaning.words
class_view-Words = ap class_view (sym rolls-Words) ∙ fold-roll-Class meaning.Class node_class Class-F.Words

pub class_view-Property : (key : String Global) → class_view (Property key) ≡ meaning.property (code_points_of key)
class_view-Property key = ap class_view (sym (rolls-Property key)) ∙ fold-roll-Class meaning.Class node_class (Class-F.Property key)

pub class_view-Sequences : (key : String Global) → class_view (Sequences key) ≡ meaning.sequences (code_points_of key)
class_view-Sequences key = ap class_view (sym (rolls-Sequences key)) ∙ fold-roll-Class meaning.Class node_class (Class-F.Sequences key)

pub class_view-Complement : (contents : Box Class Global) → class_view (Complement contents) ≡ meaning.complement (class_view contents.value)
class_view-Complement contents = ap class_view (sym (rolls-Complement contents)) ∙ fold-roll-Class meaning.Class node_class (Class-F.Complement contents)

pub class_view-Strings : (strings : Vec (Vec ℕ)) → class_view (Strings strings) ≡ meaning.strings (map (λ s. s.items) strings.items)
class_view-Strings strings = ap class_view (sym (rolls-Strings strings)) ∙ fold-roll-Class meaning.Class node_class (Class-F.Strings strings)

pub class_view-Union : (members : Vec Class) → class_view (Union members) ≡ union_of (map class_view members.items)
class_view-Union members = ap class_view (sym (rolls-Union members)) ∙ fold-roll-Class meaning.Class node_class (Class-F.Union members)

pub class_view-Intersection : (first : Box Class Global) (others : Vec Class) → class_view (Intersection first others) ≡ fold meaning.intersection (class_view first.value) (map class_view others.items)
class_view-Intersection first others = ap class_view (sym (rolls-Intersection first others)) ∙ fold-roll-Class meaning.Class node_class (Class-F.Intersection first others)

pub class_view-Difference : (first : Box Class Global) (others : Vec Class) → class_view (Difference first others) ≡ fold meaning.difference (class_view first.value) (map class_view others.items)
class_view-Difference first others = ap class_view (sym (rolls-Difference first others)) ∙ fold-roll-Class meaning.Class node_class (Class-F.Difference first others)

pub class_view-Nested : (negated : Bool) (contents : Box Class Global) → class_view (Nested negated contents) ≡ meaning.nested negated (class_view contents.value)
class_view-Nested negated contents = ap class_view (sym (rolls-Nested negated contents)) ∙ fold-roll-Class meaning.Class node_class (Class-F.Nested negated contents)

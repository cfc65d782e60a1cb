-- How large a tree is.
use Rattle.std.specs.Prelude.{ℕ, ◌+◌, length}
use Rattle.regress_meaning.specs.Pattern.{Pattern, sequence, choice, capture, grouped, atomic, modified, repeated, look, reference}

-- how many nodes a tree takes at most
abbrev pub weight : Pattern → ℕ
weight (sequence a b) = weight a + weight b
weight (choice a b) = weight a + weight b + 1
weight (capture k name a) = weight a + 1
weight (grouped a) = weight a
weight (atomic a) = weight a + 1
weight (modified on off a) = weight a
weight (repeated a first last least most greedy) = weight a + 1
weight (look negated backward a) = weight a + 1
weight (reference ks) = length ks + 1
weight _ = 1

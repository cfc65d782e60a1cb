-- What holds of the names of groups in a spelled tree.
use Rattle.std.specs.Prelude.{◌≢◌, [], IfSome}
use Rattle.regress_meaning.specs.Pattern.{Pattern, sequence, choice, capture, grouped, atomic, modified, repeated, look}

-- No group has the empty text for its name: one without a name has none.
abbrev pub HoldsNoEmptyName : Pattern → Type 0
HoldsNoEmptyName (sequence a b) = HoldsNoEmptyName a × HoldsNoEmptyName b
HoldsNoEmptyName (choice a b) = HoldsNoEmptyName a × HoldsNoEmptyName b
HoldsNoEmptyName (capture k name a) = IfSome name (λ n. n ≢ []) × HoldsNoEmptyName a
HoldsNoEmptyName (grouped a) = HoldsNoEmptyName a
HoldsNoEmptyName (atomic a) = HoldsNoEmptyName a
HoldsNoEmptyName (modified on off a) = HoldsNoEmptyName a
HoldsNoEmptyName (repeated a first last least most greedy) = HoldsNoEmptyName a
HoldsNoEmptyName (look negated backward a) = HoldsNoEmptyName a
HoldsNoEmptyName _ = Unit {0}

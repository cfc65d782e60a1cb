use Rattle.std.proofs.Common.{refl}
use Rattle.regress_unicode.specs.Names.{binary_names}
use Rattle.regress_unicode.proofs.names.binary.binary_names.Goals as goal

pub returns : goal.returns
unfolding binary_names
returns c = refl

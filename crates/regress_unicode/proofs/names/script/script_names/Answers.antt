use Rattle.std.proofs.Common.{refl}
use Rattle.ucd_sets.specs.Names.{script_names}
use Rattle.regress_unicode.proofs.names.script.script_names.Goals as goal

pub returns : goal.returns
unfolding script_names
returns c = refl

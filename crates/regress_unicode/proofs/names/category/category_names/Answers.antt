use Rattle.std.proofs.Common.{refl}
use Rattle.ucd_sets.specs.Names.{category_names as given_names}
use Rattle.regress_unicode.specs.Names.{category_names}
use Rattle.regress_unicode.proofs.names.category.category_names.Goals as goal

pub returns : goal.returns
unfolding category_names given_names
returns c = refl

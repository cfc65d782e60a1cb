use Rattle.std.proofs.Common.{sym}
use Rattle.regress_front_tables.proofs.PlaceLemmas.{place_in-found, place_in-missed}
use Rattle.regress_front_tables.proofs.tables.classes.place.Goals as goal

pub returns-in-Ok : goal.returns-in-Ok
returns-in-Ok c =
    sym (place_in-found c.args.images.now c.requires.rise c.args.c c.in-Ok.place c.in-Ok.ensures.bound c.in-Ok.ensures.ok)

pub returns-in-Err : goal.returns-in-Err
returns-in-Err c = sym (place_in-missed c.args.images.now c.requires.rise c.args.c c.in-Err.field-0 c.in-Err.ensures.position)

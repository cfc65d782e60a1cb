use Rattle.regress_engine_input.proofs.AsciiTests.{sees_bytes}
use Rattle.regress_engine_input.proofs.laws.ascii_tests_see_bytes.Goals as goal

pub returns : goal.returns
returns c = sees_bytes

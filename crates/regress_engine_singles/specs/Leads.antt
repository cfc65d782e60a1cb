-- The byte with which the character ahead begins.
use Rattle.std.specs.Prelude.{ℕ, Option, get_or, option_map, encode_utf8, if◌then◌else◌}
use Rattle.regress_meaning.specs.Meaning.{Forward}
use Rattle.regress_engine_input.specs.Views.{View, are_bytes, input_of, unit_beside}

-- The byte with which the character ahead of an offset begins in UTF-8; over bytes the one that stands there, whichever it is.
abbrev pub lead_ahead : View → ℕ → Option ℕ
lead_ahead v o = if are_bytes v.kind then unit_beside v.units Forward o else option_map (λ x. get_or (encode_utf8 x.0) 0 0) ((input_of v).next Forward o)

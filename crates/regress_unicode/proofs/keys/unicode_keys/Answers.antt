use Rattle.std.proofs.Common.{refl}
use Rattle.regress_unicode.specs.Keys.{unicode_keys}
use Rattle.regress_unicode.proofs.keys.unicode_keys.Goals as goal

pub returns : goal.returns
unfolding unicode_keys
returns c =
    rw (
      c.in_ok-push_extensions-2.ensures,
      c.in_ok-push_extensions.ensures,
      c.in_ok-push_scripts-2.ensures,
      c.in_ok-push_scripts.ensures,
      c.in_ok-push_sets-4.ensures,
      c.in_ok-push_sets-3.ensures,
      c.in_ok-push_sets-2.ensures,
      c.in_ok-push_sets.ensures,
      c.new-keys.ensures.items,
      c.binary_names-binary.ensures,
      c.category_names-categories.ensures,
      c.script_names-scripts.ensures,
    ) refl

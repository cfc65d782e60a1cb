use Rattle.std.proofs.Common.{length, option_map, sym, ap, ◌∙◌, arith}
use Rattle.std.proofs.lemmas.List.{map-append}
use Rattle.regress_front_tokens.specs.Escapes.{mode_view}
use Rattle.regress_front_classes.specs.Classes.{string_view, strings_view}
use Rattle.regress_front_tokens.specs.Cursors.{unread}
use Rattle.regress_front_classes.proofs.SetLemmas.{after, after-more, strings-more, bar-no_brace, bar-less}
use Rattle.regress_front_classes.proofs.class.set_strings.Goals as goal

pub loop-strings-smaller : goal.loop-strings-smaller
loop-strings-smaller c =
    let m = mode_view c.args.mode.now in
    let t = unread c.loop-strings.cursor in
    let u = unread c.set_string.new.cursor in
    let no_more = (c.contents_go_by_steps.ensures m t).string_less (string_view c.in_ok-string.string) u c.in_ok-string.ensures.read in
    let less = bar-less u (sym c.eat.ensures.found ∙ c.if-not-eat.false) in
    omega (arith, no_more, less, ap length c.if-not-eat.ensures.read)

pub loop-strings-preserved : goal.loop-strings-preserved
loop-strings-preserved c =
    let m = mode_view c.args.mode.now in
    let t = unread c.loop-strings.cursor in
    let u = unread c.set_string.new.cursor in
    let bar = sym c.eat.ensures.found ∙ c.if-not-eat.false in
    record {
      kept = c.eat.ensures.kept ∙ c.set_string.ensures.kept ∙ c.loop-strings.invariant.kept;
      state = rw (c.if-not-eat.ensures.read, c.in_ok-push.ensures.items, map-append)
          (c.loop-strings.invariant.state
          ∙ ap (option_map (after (strings_view c.loop-strings.strings)))
          (strings-more m t (c.contents_go_by_steps.ensures m t) (string_view c.in_ok-string.string) u c.in_ok-string.ensures.read (bar-no_brace u bar) bar)
          ∙ after-more (strings_view c.loop-strings.strings) (string_view c.in_ok-string.string) _);
    }

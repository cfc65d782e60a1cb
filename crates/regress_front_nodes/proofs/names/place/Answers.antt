use Rattle.std.proofs.Common.{◌≡◌, ◌<◌, ◌≤◌, List, [], ◌∷◌, ◌++◌, length, map, chars, ℕ, String, Global, slice_set, sym, ap, ap₂, ◌∙◌, arith}
use Rattle.std.specs.String.{string_bytes}
use Rattle.std.proofs.lemmas.Str.{chars-nil}
use Rattle.std.proofs.lemmas.List.{map-append, map-set, length-map}
use Rattle.regress_front_nodes.specs.Names.{padded, name_texts}
use Rattle.regress_front_nodes.proofs.NameLemmas.{padded-more, padded-full}
use Rattle.regress_front_nodes.proofs.names.place.Goals as goal

-- the code points of a name
abbrev text : String Global → List ℕ
text name = chars (string_bytes name)

pub loop-names-preserved : goal.loop-names-preserved
loop-names-preserved c =
    let names = c.loop-names.names in
    let few : length (name_texts names) ≤ c.args.number = omega (arith, length-map names.items text, c.len.ensures, c.loop-names-test.true) in
    let pushed : name_texts c.push.new.self ≡ name_texts names ++ [] ∷ [] =
    ap (map text) c.in_ok-push.ensures.items ∙ map-append text names.items (c.new.result ∷ [])
    ∙ ap (λ (name : List ℕ). name_texts names ++ name ∷ []) (ap chars c.new.ensures.bytes ∙ chars-nil) in
    ap (padded c.args.number) pushed ∙ padded-more c.args.number (name_texts names) few ∙ c.loop-names.invariant

pub returns : goal.returns
returns c =
    let names = c.loop-names.names in
    let full : c.args.number < length (name_texts names) = omega (arith, length-map names.items text, c.len.ensures, c.loop-names-test.false) in
    map-set text names.items c.args.number c.in_ok-text.text
    ∙ ap₂ (λ (ns : List (List ℕ)) (name : List ℕ). slice_set ns c.args.number name)
    (sym (padded-full c.args.number (name_texts names) full) ∙ c.loop-names.invariant) c.in_ok-text.ensures

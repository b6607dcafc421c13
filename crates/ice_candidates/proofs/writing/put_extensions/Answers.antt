use Rattle.std.proofs.Common.{◌≡◌, true, sym, ap, subst, ◌∙◌}
use Rattle.std.specs.Prelude.{is_none}
use Rattle.std.specs.List.{flat_map}
use Rattle.stun_text.proofs.Joining.{both, spelled_so}
use Rattle.ice_candidates.specs.Words.{words, words_of}
use Rattle.ice_candidates.specs.Reading.{extensions_fault, pairs_of}
use Rattle.ice_candidates.specs.Texts.{extension_text}
use Rattle.ice_candidates.proofs.ExtensionsLemmas.{extensions_text}
use Rattle.ice_candidates.proofs.writing.put_extensions.Goals as goal

pub returns : goal.returns
returns g c =
    let wrote = g.S.TextSink.wrote in
    let joins = g.met.S.TextSink.joins in
    let text = c.in-Some.text.now in
    let sound : is_none (extensions_fault (words text)) ≡ true = subst (λ o. is_none (extensions_fault (words_of o)) ≡ true) c.in-Some.is c.args.extensions.now.sound in
    let is = ap (λ o. flat_map extension_text (pairs_of (words_of o))) c.in-Some.is ∙ extensions_text text sound in
    spelled_so wrote joins (sym is) (both wrote joins c.in_ok-put.ensures c.in_ok-put-2.ensures)

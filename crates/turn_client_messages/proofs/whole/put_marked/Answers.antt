use Rattle.std.proofs.Common.{◌+◌, ◌-◌, length, drop, refl, sym}
use Rattle.std.proofs.lemmas.List.{length-drop}
use Rattle.turn_client_messages.proofs.WholeLemmas.{all_of, marked_is}
use Rattle.turn_client_messages.proofs.whole.put_marked.Goals as goal

pub returns : goal.returns
returns c =
    let plain = c.args.plain.now in
    marked_is plain c.args.before.now c.put.new.message c.put-2.new.message c.put-3.new.message c.put-4.new.message c.put-5.new.message
    _ _ _ c.args.field (length c.args.before.now - (length plain + 4)) c.requires.header c.requires.room refl c.to_be_bytes.ensures refl (all_of (drop 20 plain) (length plain - 20) (sym (length-drop 20 plain)))
    c.put.ensures c.put-2.ensures c.put-3.ensures c.put-4.ensures c.put-5.ensures

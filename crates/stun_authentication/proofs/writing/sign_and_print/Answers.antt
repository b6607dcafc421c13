use Rattle.std.proofs.Common.{true, false, Ok, Err}
use Rattle.stun_keys.specs.Keys.{key_bytes}
use Rattle.stun_authentication.proofs.FinishingLemmas.{sign_step, finger_step, unsigned, only_signed, both_steps, after_error, as_asked}
use Rattle.stun_authentication.proofs.writing.sign_and_print.Goals as goal

pub returns-in_err-add_message_integrity_with_key : goal.returns-in_err-add_message_integrity_with_key
returns-in_err-add_message_integrity_with_key g c =
    let state = g.B.MessageWrite.state in
    let a = c.args.algorithm in
    let key = key_bytes c.args.key.now in
    let old = state c.args.write.now in
    let mid = state c.add_message_integrity_with_key.new.self in
    let e = c.in_err-add_message_integrity_with_key.field-0.0 in
    let reported = c.in_err-add_message_integrity_with_key.ensures in
    unsigned c.args.fingerprint c.from_residual.result old mid a key e (sign_step a key (Err e) old mid reported.adds reported.answer) c.from_residual.ensures

pub returns-in_err-add_fingerprint : goal.returns-in_err-add_fingerprint
returns-in_err-add_fingerprint g c =
    let state = g.B.MessageWrite.state in
    let a = c.args.algorithm in
    let key = key_bytes c.args.key.now in
    let old = state c.args.write.now in
    let mid = state c.add_message_integrity_with_key.new.self in
    let new = state c.add_fingerprint.new.self in
    let u = c.in_ok-add_message_integrity_with_key.field-0 in
    let e = c.in_err-add_fingerprint.field-0.0 in
    let one = c.in_ok-add_message_integrity_with_key.ensures in
    let two = c.in_err-add_fingerprint.ensures in
    let result = c.from_residual-in_err-add_fingerprint.result in
    as_asked c.args.fingerprint true result old new a key c.if-fingerprint.true
    (after_error result e old new a key (both_steps u (Err e) old mid new a key (sign_step a key (Ok u) old mid one.adds one.answer) (finger_step (Err e) mid new two.adds two.answer)) c.from_residual-in_err-add_fingerprint.ensures)

pub returns-in_ok-add_fingerprint : goal.returns-in_ok-add_fingerprint
returns-in_ok-add_fingerprint g c =
    let state = g.B.MessageWrite.state in
    let a = c.args.algorithm in
    let key = key_bytes c.args.key.now in
    let old = state c.args.write.now in
    let mid = state c.add_message_integrity_with_key.new.self in
    let new = state c.add_fingerprint.new.self in
    let u = c.in_ok-add_message_integrity_with_key.field-0 in
    let v = c.in_ok-add_fingerprint.field-0 in
    let one = c.in_ok-add_message_integrity_with_key.ensures in
    let two = c.in_ok-add_fingerprint.ensures in
    as_asked c.args.fingerprint true (Ok v) old new a key c.if-fingerprint.true
    (both_steps u (Ok v) old mid new a key (sign_step a key (Ok u) old mid one.adds one.answer) (finger_step (Ok v) mid new two.adds two.answer))

pub returns-else-fingerprint : goal.returns-else-fingerprint
returns-else-fingerprint g c =
    let state = g.B.MessageWrite.state in
    let a = c.args.algorithm in
    let key = key_bytes c.args.key.now in
    let old = state c.args.write.now in
    let mid = state c.add_message_integrity_with_key.new.self in
    let u = c.in_ok-add_message_integrity_with_key.field-0 in
    let one = c.in_ok-add_message_integrity_with_key.ensures in
    as_asked c.args.fingerprint false (Ok u) old mid a key c.if-fingerprint.false (only_signed u u old mid a key (sign_step a key (Ok u) old mid one.adds one.answer))

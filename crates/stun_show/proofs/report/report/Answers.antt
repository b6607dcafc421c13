use Rattle.std.proofs.Common.{ℕ, List, ◌++◌, string_bytes, sym, ap, ◌∙◌}
use Rattle.std.specs.Option.{option_map}
use Rattle.stun_types.specs.Message.{message_bytes}
use Rattle.stun_show.specs.Report.{refusal_line, end_of_message}
use Rattle.stun_show.proofs.ReportLemmas.{made_report, report-refusal, end_of-message, end_of-refusal}
use Rattle.stun_show.proofs.report.report.Goals as goal

pub returns-in_ok-end-in-Ok : goal.returns-in_ok-end-in-Ok
returns-in_ok-end-in-Ok c =
    let found = c.in-Ok.ensures in
    let password = option_map (λ given. given.now) c.args.password in (
      made_report c.args.bytes.now (message_bytes c.in-Ok.message) password c.in-Ok.header (string_bytes c.new-text.result) (string_bytes c.write_header.new.text) (string_bytes c.write_attributes.new.text) (string_bytes c.write_integrity.new.text)
          found.0 found.1 found.2 c.new-text.ensures.bytes c.in_ok-write_header-in-Ok.ensures c.in_ok-write_attributes-in-Ok.ensures c.in_ok-end-in-Ok.ensures.text,
      c.in_ok-end-in-Ok.ensures.end ∙ ap (λ (d : List ℕ). end_of_message d password) found.2 ∙ sym (end_of-message c.args.bytes.now password found.0),
    )

pub returns-in_ok-write_refusal-in-Err : goal.returns-in_ok-write_refusal-in-Err
returns-in_ok-write_refusal-in-Err c =
    let reported = c.in-Err.ensures in
    let password = option_map (λ given. given.now) c.args.password in
    let all = c.in_ok-write_refusal-in-Err.ensures ∙ ap (λ (b : List ℕ). b ++ refusal_line c.in-Err.refusal) c.new-text.ensures.bytes in
    (all ∙ sym (report-refusal c.args.bytes.now password c.in-Err.refusal reported), sym (end_of-refusal c.args.bytes.now password c.in-Err.refusal reported))

use Rattle.std.proofs.Common.{◌≡◌, List, ℕ, ◌++◌, ap, ◌∙◌, refl}
use Rattle.std.specs.Prelude.{codes}
use Rattle.stun_text.proofs.Joining.{spelled}
use Rattle.stun_base.specs.declared.data.Data.{Data}
use Rattle.stun_base.specs.declared.data.Data.TheVariants.{Borrowed}
use Rattle.stun_base.specs.declared.data.DataSlice.{DataSlice}
use Rattle.stun_base.specs.Data.{is_borrowed}
use Rattle.stun_attributes.specs.PrintedAttributes.{bytes_in_decimal, data_shown}
use Rattle.stun_attributes.proofs.wire.printed.put_data.Goals as goal

-- borrowed data is shown as such
borrowed_shown : (value : Data) (slice : DataSlice) (bytes : List ℕ) → value ≡ Borrowed slice
    → codes "Borrowed(DataSlice([" ++ bytes_in_decimal bytes ++ codes "]))" ≡ data_shown (is_borrowed value) bytes
borrowed_shown value slice bytes is = rw is refl

pub returns-in-Borrowed : goal.returns-in-Borrowed
returns-in-Borrowed g c =
    let one = c.put_between.ensures in
    spelled g.S.TextSink.wrote g.met.S.TextSink.joins c.put_between.result c.args.sink.now c.put_between.new.sink
    (borrowed_shown c.args.value.now c.in-Borrowed.field-0 c.as_bytes-bytes.result.now c.in-Borrowed.is ∙ ap (data_shown (is_borrowed c.args.value.now)) c.as_bytes-bytes.ensures) one

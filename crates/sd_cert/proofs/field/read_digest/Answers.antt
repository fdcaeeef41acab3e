use Rattle.std.proofs.Common.{sym, ap, ◌∙◌}
use Rattle.sd_cert.proofs.FieldLemmas.{digest_refused, digest_is, digest_differs, when_ok}
use Rattle.hex.specs.Hex.{encode_lower}
use Rattle.sd_cert.proofs.field.read_digest.Goals as goal

pub returns-then-is_err : goal.returns-then-is_err
returns-then-is_err c =
    (tt, λ d f t. absurd (digest_refused c.args.text.now c.decode_to_slice.new.out c.decode_to_slice.result c.decode_to_slice.ensures.value (sym c.is_err.ensures.value ∙ c.if-is_err.true) d f t))

pub returns-then-eq : goal.returns-then-eq
returns-then-eq c = digest_is c.args.text.now c.decode_to_slice.new.out c.as_slice-2.result.now c.decode_to_slice.result c.decode_to_slice.ensures.value (sym c.is_err.ensures.value ∙ c.if-is_err.false) (c.as_slice-2.ensures ∙ when_ok c.encode_to_slice.result c.encode_to_slice.ensures.written (sym c.is_err-2.ensures.value ∙ c.if-is_err-2.false) ∙ ap encode_lower c.as_slice.ensures) (sym c.eq.ensures ∙ c.if-eq.true)

pub returns-else-eq : goal.returns-else-eq
returns-else-eq c =
    (tt, λ d f t. absurd (digest_differs c.args.text.now c.decode_to_slice.new.out c.as_slice-2.result.now c.decode_to_slice.result c.decode_to_slice.ensures.value (sym c.is_err.ensures.value ∙ c.if-is_err.false) (c.as_slice-2.ensures ∙ when_ok c.encode_to_slice.result c.encode_to_slice.ensures.written (sym c.is_err-2.ensures.value ∙ c.if-is_err-2.false) ∙ ap encode_lower c.as_slice.ensures) (sym c.eq.ensures ∙ c.if-eq.false) d f t))

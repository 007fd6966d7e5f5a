-- `image::config::set_field` meets its contract.
use Rattle.std.proofs.Common.{◌∙◌, sym, ap}
use Rattle.text_lexical.specs.Bytes.{bytes}
use Rattle.image.specs.Settings.{settings, limb_bits_key, data_limbs_key, addr_limbs_key, checked}
use Rattle.image.specs.Promised.{settings_meant}
use Rattle.image.proofs.Checks.{set-limb-bits, set-data-limbs, set-addr-limbs, set-none}
use Rattle.image.proofs.config.set_field.Goals as goal

pub returns-then-same : goal.returns-then-same
unfolding settings limb_bits_key bytes
returns-then-same c =
    c.validated.ensures ∙ ap checked (sym (set-limb-bits (settings_meant c.args.config) c.args.key.now c.args.value (sym c.same.ensures ∙ c.if-same.true)))

pub returns-then-same-2 : goal.returns-then-same-2
unfolding settings limb_bits_key data_limbs_key bytes
returns-then-same-2 c =
    c.validated-then-same-2.ensures
    ∙ ap checked
    (sym (set-data-limbs (settings_meant c.args.config) c.args.key.now c.args.value (sym c.same.ensures ∙ c.if-same.false) (sym c.same-2.ensures ∙ c.if-same-2.true)))

pub returns-then-same-3 : goal.returns-then-same-3
unfolding settings limb_bits_key data_limbs_key addr_limbs_key bytes
returns-then-same-3 c =
    c.validated-then-same-3.ensures
    ∙ ap checked
    (sym (set-addr-limbs (settings_meant c.args.config) c.args.key.now c.args.value (sym c.same.ensures ∙ c.if-same.false) (sym c.same-2.ensures ∙ c.if-same-2.false)
    (sym c.same-3.ensures ∙ c.if-same-3.true)))

pub returns : goal.returns
unfolding limb_bits_key data_limbs_key addr_limbs_key bytes checked
returns c =
    ap checked
    (sym (set-none (settings_meant c.args.config) c.args.key.now c.args.value (sym c.same.ensures ∙ c.if-same.false) (sym c.same-2.ensures ∙ c.if-same-2.false)
    (sym c.same-3.ensures ∙ c.if-same-3.false)))

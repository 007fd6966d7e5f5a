-- `image::program::put_header` meets its contract: the header is put in five pieces, of which each leaves the rest.
use mathlib.Core.Path.{◌≡◌, refl, sym, ◌∙◌, subst}
use mathlib.Core.List.{List, [], ◌∷◌, ◌++◌}
use Prim.Native.Nat.{ℕ}
use Rattle.text_lexical.specs.Numbers.{little}
use Rattle.text_writer.proofs.Writing.{little-four}
use Rattle.text_writer.specs.Sinks.{SinkLaws}
use Rattle.text_writer.proofs.Sinks.{Left, left-all, left-fits, left-next}
use Rattle.image.specs.Settings.{Settings, settings}
use Rattle.image.specs.Program.{magic, version, entry, stack_size, header_bytes, header_for}
use Rattle.image.specs.Promised.{settings_meant}
use Rattle.image.proofs.program.put_header.Goals as goal

-- The pieces: magic and version; settings and flags; the entry; the code's size; data, bss and stack.
abbrev versioned : List ℕ
versioned = 90 ∷ 75 ∷ 73 ∷ 82 ∷ 4 ∷ 0 ∷ 3 ∷ 0 ∷ []

abbrev flagged : Settings → List ℕ
flagged s = s.limb_bits ∷ s.data_limbs ∷ s.addr_limbs ∷ 0 ∷ []

abbrev entry-bytes : List ℕ
entry-bytes = 0 ∷ 16 ∷ 0 ∷ 0 ∷ []

abbrev last : List ℕ
last = 0 ∷ 0 ∷ 0 ∷ 0 ∷ 0 ∷ 0 ∷ 0 ∷ 0 ∷ 0 ∷ 0 ∷ 16 ∷ 0 ∷ []

-- Those from the code's size on, from the entry on, and from the settings on.
abbrev sized : ℕ → List ℕ
sized size = little 4 size ++ last

abbrev entered : ℕ → List ℕ
entered size = entry-bytes ++ sized size

abbrev set_up : Settings → ℕ → List ℕ
set_up s size = flagged s ++ entered size

pieces : (s : Settings) (size : ℕ) → header_bytes (header_for s size 0) ≡ versioned ++ set_up s size
unfolding header_bytes header_for little magic version entry stack_size
pieces s size = refl

-- What is left of a header that fits a sink: all of it at first, and then what follows each piece that has been put.
module _ {S : Type 0} {Fits : S → List ℕ → Type 0} {Took : S → List ℕ → S → Type 0} (laws : SinkLaws Fits Took) {s : S} (setup : Settings) (size : ℕ)
    (h : Fits s (header_bytes (header_for setup size 0))) where
  abbrev Remains : S → List ℕ → Type 0
  Remains = Left Fits Took s (header_bytes (header_for setup size 0))

  all : Remains s (versioned ++ set_up setup size)
  all = left-all laws (pieces setup size) h

  after-version : {t : S} → Took s versioned t → Remains t (set_up setup size)
  after-version k = left-next laws k all

  after-settings : {t u : S} → Took s versioned t → Took t (flagged setup) u → Remains u (entered size)
  after-settings k l = left-next laws l (after-version k)

  after-entry : {t u v : S} → Took s versioned t → Took t (flagged setup) u → Took u entry-bytes v → Remains v (sized size)
  after-entry k l m = left-next laws m (after-settings k l)

  after-size : {t u v w : S} {b : List ℕ} → Took s versioned t → Took t (flagged setup) u → Took u entry-bytes v → b ≡ little 4 size → Took v b w → Remains w last
  after-size {v = v} {w} k l m e n = left-next laws (subst (λ (b : List ℕ). Took v b w) e n) (after-entry k l m)

pub put_bytes-requires : goal.put_bytes-requires
put_bytes-requires g c =
    let L = g.met.S.Sink.laws in
    let setup = settings_meant c.args.config in
    left-fits L (set_up setup c.args.code_size) (all L setup c.args.code_size c.requires)

pub put_bytes-requires-2 : goal.put_bytes-requires-2
unfolding settings
put_bytes-requires-2 g c =
    let L = g.met.S.Sink.laws in
    left-fits L (entered c.args.code_size) (after-version L (settings_meant c.args.config) c.args.code_size c.requires c.put_bytes.ensures)

pub put_bytes-requires-3 : goal.put_bytes-requires-3
unfolding settings
put_bytes-requires-3 g c =
    let L = g.met.S.Sink.laws in
    left-fits L (sized c.args.code_size) (after-settings L (settings_meant c.args.config) c.args.code_size c.requires c.put_bytes.ensures c.put_bytes-2.ensures)

pub put_bytes-requires-4 : goal.put_bytes-requires-4
unfolding settings
put_bytes-requires-4 g c =
    let L = g.met.S.Sink.laws in
    let size = c.to_le_bytes.ensures ∙ little-four c.args.code_size in
    let left = after-entry L (settings_meant c.args.config) c.args.code_size c.requires c.put_bytes.ensures c.put_bytes-2.ensures c.put_bytes-3.ensures in
    subst (g.S.Sink.Fits c.put_bytes-3.new.self) (sym size) (left-fits L last left)

pub put_bytes-requires-5 : goal.put_bytes-requires-5
unfolding settings
put_bytes-requires-5 g c =
    let L = g.met.S.Sink.laws in
    let size = c.to_le_bytes.ensures ∙ little-four c.args.code_size in
    (after-size L (settings_meant c.args.config) c.args.code_size c.requires c.put_bytes.ensures c.put_bytes-2.ensures c.put_bytes-3.ensures size c.put_bytes-4.ensures).fits

pub returns : goal.returns
unfolding settings
returns g c =
    let L = g.met.S.Sink.laws in
    let size = c.to_le_bytes.ensures ∙ little-four c.args.code_size in
    (after-size L (settings_meant c.args.config) c.args.code_size c.requires c.put_bytes.ensures c.put_bytes-2.ensures c.put_bytes-3.ensures size c.put_bytes-4.ensures).taken _ c.put_bytes-5.ensures

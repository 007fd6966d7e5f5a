-- What the values of settings, header and opening mean in terms of the definitions.
use Rattle.std.specs.Prelude.{ℕ, ◌-◌, List, take, drop}
use Rattle.text.specs.Lines.{Line as Record}
use Rattle.text.specs.Promised.{firsts}
use Rattle.text.specs.declared.parser.Line.{Line}
use Rattle.image.specs.Settings.{Settings, settings}
use Rattle.image.specs.Program.{Header}
use Rattle.image.specs.Opening.{Opened as MeantOpened}
use Rattle.image.specs.declared.config.Config.{Config}
use Rattle.image.specs.declared.program.ProgramHeader.{ProgramHeader}
use Rattle.image.specs.declared.program.Opened.{Opened}

-- ---- settings

abbrev pub settings_meant : Config → Settings
settings_meant c = settings c.limb_bits c.data_limbs c.addr_limbs

-- The code's value for settings.
abbrev pub config_for : Settings → Config
config_for s = record { limb_bits = s.limb_bits; data_limbs = s.data_limbs; addr_limbs = s.addr_limbs }

-- ---- lines

-- The record that a line's record means.
abbrev pub record_meant : List ℕ → Line → Record
record_meant s l = record { count = l.count; first = firsts s l.tokens l.count }

-- ---- the header

abbrev pub header_meant : ProgramHeader → Header
header_meant h =
    record {
      magic = h.magic;
      version = h.version;
      setup = settings_meant h.config;
      flags = h.flags;
      entry = h.entry_point;
      code_size = h.code_size;
      data_size = h.data_size;
      bss_size = h.bss_size;
      stack_size = h.stack_size;
    }

-- The parts stand where the answer says: the code from 32 to its end, the data after it.
abbrev pub opened_meant : List ℕ → Opened → MeantOpened
opened_meant b o = record { header = header_meant o.header; code_end = o.code_end; code = take (o.code_end - 32) (drop 32 b); initialized = drop o.code_end b }

-- The register of a node, on its chip.
use Rattle.std.specs.Prelude.{ℕ, Bool, ◌&&◌, nat_lt}
use Rattle.efuse.specs.declared.SecureVersion.{SecureVersion}
use Rattle.efuse.specs.Register.{width, version, raised}
use Rattle.node.specs.declared.Settings.{Settings}

-- the eFuse version: the version that the register holds
abbrev pub efuse_version : Settings → ℕ
efuse_version settings = version (width settings.board.chip) settings.efuse

-- the register raised to a version
abbrev pub raised_to : Settings → SecureVersion → ℕ
raised_to settings to = raised (width settings.board.chip) settings.efuse to.0

-- with anti-rollback on, a version below the eFuse version
abbrev pub is_below_efuse : Settings → SecureVersion → Bool
is_below_efuse settings of = settings.anti_rollback && nat_lt of.0 (efuse_version settings)

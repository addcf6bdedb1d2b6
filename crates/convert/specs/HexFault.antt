-- Why digits give no octets.
use Rattle.hex.specs.declared.error.FromHexError.{FromHexError}
use Rattle.hex.specs.declared.error.FromHexError.TheVariants.{OutOfMemory}
use Rattle.convert.specs.declared.hex_text.HexFault as hex

-- a text that is no row of pairs of digits, but for memory
abbrev pub hex_fault_of : FromHexError → hex.HexFault
hex_fault_of OutOfMemory = hex.TheVariants.NoMemory
hex_fault_of _ = hex.TheVariants.NotHex

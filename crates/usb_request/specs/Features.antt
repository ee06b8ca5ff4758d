-- Feature selectors: values of wValue in SET_FEATURE and CLEAR_FEATURE (tables 9-6 and 11-17).
use Rattle.std.specs.Prelude.{ℕ}

abbrev pub ENDPOINT_HALT : ℕ
ENDPOINT_HALT = 0

abbrev pub PORT_ENABLE : ℕ
PORT_ENABLE = 1

abbrev pub PORT_RESET : ℕ
PORT_RESET = 4

abbrev pub PORT_POWER : ℕ
PORT_POWER = 8

abbrev pub C_PORT_CONNECTION : ℕ
C_PORT_CONNECTION = 16

abbrev pub C_PORT_ENABLE : ℕ
C_PORT_ENABLE = 17

abbrev pub C_PORT_RESET : ℕ
C_PORT_RESET = 20

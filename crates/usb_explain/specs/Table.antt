-- The requests that have names, and the words of each.
use Rattle.std.specs.Prelude.{ℕ, List, [], ◌∷◌, codes}
use Rattle.usb_explain.specs.Words.{Said}
use Rattle.usb_explain.specs.Words.Said.{byte, digits, endpoint, fixed, name, number, request, word}
use Rattle.usb_explain.specs.declared.field.SetupField.TheVariants.{Index, IndexHigh, IndexLow}
use Rattle.usb_explain.specs.declared.field.SetupField.TheVariants.{Kind, Length, RequestCode}
use Rattle.usb_explain.specs.declared.field.SetupField.TheVariants.{RequestType, Value, ValueHigh}
use Rattle.usb_explain.specs.declared.field.SetupField.TheVariants.{ValueLow}

-- bits 6 and 5 of bmRequestType (table 9-2)
abbrev pub kinds : List (ℕ × List ℕ)
kinds =
    (0, codes "standard") ∷ (1, codes "class") ∷ (2, codes "vendor") ∷ (3, codes "reserved") ∷ []

-- descriptors of which a device has one (table 9-5)
abbrev pub whole_descriptors : List (ℕ × List ℕ)
whole_descriptors =
    (1, codes "device") ∷ (6, codes "device qualifier") ∷ []

-- descriptors that have an index and no language (table 9-5)
abbrev pub indexed_descriptors : List (ℕ × List ℕ)
indexed_descriptors =
    (2, codes "configuration") ∷ (7, codes "other speed configuration") ∷ []

-- features of a hub (table 11-17)
abbrev pub hub_features : List (ℕ × List ℕ)
hub_features =
    (0, codes "C_HUB_LOCAL_POWER") ∷ (1, codes "C_HUB_OVER_CURRENT") ∷ []

-- features of a hub's port (table 11-17)
abbrev pub port_features : List (ℕ × List ℕ)
port_features =
    (0, codes "PORT_CONNECTION") ∷ (1, codes "PORT_ENABLE") ∷ (2, codes "PORT_SUSPEND") ∷
    (3, codes "PORT_OVER_CURRENT") ∷ (4, codes "PORT_RESET") ∷ (8, codes "PORT_POWER") ∷
    (9, codes "PORT_LOW_SPEED") ∷ (16, codes "C_PORT_CONNECTION") ∷ (17, codes "C_PORT_ENABLE") ∷
    (18, codes "C_PORT_SUSPEND") ∷ (19, codes "C_PORT_OVER_CURRENT")
    ∷ (20, codes "C_PORT_RESET") ∷ []

-- features of a hub's port that have a selector (table 11-17)
abbrev pub selected_features : List (ℕ × List ℕ)
selected_features =
    (21, codes "PORT_TEST") ∷ (22, codes "PORT_INDICATOR") ∷ []

-- descriptors of a HID's interface (HID 1.11, section 7.1)
abbrev pub hid_descriptors : List (ℕ × List ℕ)
hid_descriptors =
    (0x21, codes "HID") ∷ (0x22, codes "report") ∷ (0x23, codes "physical") ∷ []

-- types of a HID's reports (HID 1.11, section 7.2.1)
abbrev pub report_types : List (ℕ × List ℕ)
report_types =
    (1, codes "input") ∷ (2, codes "output") ∷ (3, codes "feature") ∷ []

-- protocols of a HID (HID 1.11, section 7.2.5)
abbrev pub protocols : List (ℕ × List ℕ)
protocols =
    (0, codes "boot") ∷ (1, codes "report") ∷ []

-- the words of a request are those of the first row that fits; the last one fits any
abbrev pub rows : List (List Said)
rows =
    -- clear feature, set feature (9.4.1, 9.4.9)
    (request 0x00 0x01 ∷ fixed Value 1 ∷ fixed Index 0 ∷ fixed Length 0 ∷
    word (codes "CLEAR_FEATURE DEVICE_REMOTE_WAKEUP") ∷ [])
    ∷ (request 0x02 0x01 ∷ fixed Value 0 ∷ fixed Length 0 ∷
    word (codes "CLEAR_FEATURE ENDPOINT_HALT, endpoint ") ∷ endpoint ∷ [])
    ∷ (request 0x00 0x03 ∷ fixed Value 1 ∷ fixed Index 0 ∷ fixed Length 0 ∷
    word (codes "SET_FEATURE DEVICE_REMOTE_WAKEUP") ∷ [])
    ∷ (request 0x00 0x03 ∷ fixed Value 2 ∷ fixed IndexLow 0 ∷ fixed Length 0 ∷
    word (codes "SET_FEATURE TEST_MODE selector ") ∷ number IndexHigh ∷ [])
    ∷ (request 0x02 0x03 ∷ fixed Value 0 ∷ fixed Length 0 ∷
    word (codes "SET_FEATURE ENDPOINT_HALT, endpoint ") ∷ endpoint ∷ [])
    -- configurations and interfaces (9.4.2, 9.4.4, 9.4.7, 9.4.10)
    ∷ (request 0x80 0x08 ∷ fixed Value 0 ∷ fixed Index 0 ∷ fixed Length 1 ∷
    word (codes "GET_CONFIGURATION") ∷ [])
    ∷ (request 0x00 0x09 ∷ fixed ValueHigh 0 ∷ fixed Index 0 ∷ fixed Length 0 ∷
    word (codes "SET_CONFIGURATION ") ∷ number ValueLow ∷ [])
    ∷ (request 0x81 0x0A ∷ fixed Value 0 ∷ fixed Length 1 ∷
    word (codes "GET_INTERFACE interface ") ∷ number Index ∷ [])
    ∷ (request 0x01 0x0B ∷ fixed Length 0 ∷ word (codes "SET_INTERFACE interface ") ∷
    number Index ∷ word (codes ", setting ") ∷ number Value ∷ [])
    -- descriptors (9.4.3, 9.4.8)
    ∷ (request 0x80 0x06 ∷ fixed ValueLow 0 ∷ fixed Index 0 ∷ word (codes "GET_DESCRIPTOR ") ∷
    name ValueHigh whole_descriptors ∷ word (codes ", ") ∷ number Length ∷ word (codes " bytes") ∷
    [])
    ∷ (request 0x80 0x06 ∷ fixed Index 0 ∷ word (codes "GET_DESCRIPTOR ") ∷
    name ValueHigh indexed_descriptors ∷ word (codes " ") ∷ number ValueLow ∷ word (codes ", ") ∷
    number Length ∷ word (codes " bytes") ∷ [])
    ∷ (request 0x80 0x06 ∷ fixed Value 0x0300 ∷ fixed Index 0 ∷
    word (codes "GET_DESCRIPTOR string 0") ∷ word (codes ", ") ∷ number Length ∷
    word (codes " bytes") ∷ [])
    ∷ (request 0x80 0x06 ∷ fixed ValueHigh 3 ∷ word (codes "GET_DESCRIPTOR string ") ∷
    number ValueLow ∷ word (codes ", language ") ∷ digits Index ∷ word (codes ", ") ∷
    number Length ∷ word (codes " bytes") ∷ [])
    ∷ (request 0x00 0x07 ∷ fixed ValueLow 0 ∷ fixed Index 0 ∷ word (codes "SET_DESCRIPTOR ") ∷
    name ValueHigh whole_descriptors ∷ word (codes ", ") ∷ number Length ∷ word (codes " bytes") ∷
    [])
    ∷ (request 0x00 0x07 ∷ fixed Index 0 ∷ word (codes "SET_DESCRIPTOR ") ∷
    name ValueHigh indexed_descriptors ∷ word (codes " ") ∷ number ValueLow ∷ word (codes ", ") ∷
    number Length ∷ word (codes " bytes") ∷ [])
    ∷ (request 0x00 0x07 ∷ fixed Value 0x0300 ∷ fixed Index 0 ∷
    word (codes "SET_DESCRIPTOR string 0") ∷ word (codes ", ") ∷ number Length ∷
    word (codes " bytes") ∷ [])
    ∷ (request 0x00 0x07 ∷ fixed ValueHigh 3 ∷ word (codes "SET_DESCRIPTOR string ") ∷
    number ValueLow ∷ word (codes ", language ") ∷ digits Index ∷ word (codes ", ") ∷
    number Length ∷ word (codes " bytes") ∷ [])
    -- status, address, synch frame (9.4.5, 9.4.6, 9.4.11)
    ∷ (request 0x80 0x00 ∷ fixed Value 0 ∷ fixed Index 0 ∷ fixed Length 2 ∷
    word (codes "GET_STATUS device") ∷ [])
    ∷ (request 0x81 0x00 ∷ fixed Value 0 ∷ fixed Length 2 ∷ word (codes "GET_STATUS interface ") ∷
    number Index ∷ [])
    ∷ (request 0x82 0x00 ∷ fixed Value 0 ∷ fixed Length 2 ∷ word (codes "GET_STATUS endpoint ") ∷
    endpoint ∷ [])
    ∷ (request 0x00 0x05 ∷ fixed Index 0 ∷ fixed Length 0 ∷ word (codes "SET_ADDRESS ") ∷
    number Value ∷ [])
    ∷ (request 0x82 0x0C ∷ fixed Value 0 ∷ fixed Length 2 ∷ word (codes "SYNCH_FRAME endpoint ") ∷
    endpoint ∷ [])
    -- features of hubs and ports (11.24.2.1, 11.24.2.2, 11.24.2.12, 11.24.2.13)
    ∷ (request 0x20 0x01 ∷ fixed Index 0 ∷ fixed Length 0 ∷ word (codes "CLEAR_FEATURE ") ∷
    name Value hub_features ∷ word (codes ", hub") ∷ [])
    ∷ (request 0x23 0x01 ∷ fixed IndexHigh 0 ∷ fixed Length 0 ∷ word (codes "CLEAR_FEATURE ") ∷
    name Value port_features ∷ word (codes ", port ") ∷ number IndexLow ∷ [])
    ∷ (request 0x23 0x01 ∷ fixed Length 0 ∷ word (codes "CLEAR_FEATURE ") ∷
    name Value selected_features ∷ word (codes " selector ") ∷ number IndexHigh ∷
    word (codes ", port ") ∷ number IndexLow ∷ [])
    ∷ (request 0x20 0x03 ∷ fixed Index 0 ∷ fixed Length 0 ∷ word (codes "SET_FEATURE ") ∷
    name Value hub_features ∷ word (codes ", hub") ∷ [])
    ∷ (request 0x23 0x03 ∷ fixed IndexHigh 0 ∷ fixed Length 0 ∷ word (codes "SET_FEATURE ") ∷
    name Value port_features ∷ word (codes ", port ") ∷ number IndexLow ∷ [])
    ∷ (request 0x23 0x03 ∷ fixed Length 0 ∷ word (codes "SET_FEATURE ") ∷
    name Value selected_features ∷ word (codes " selector ") ∷ number IndexHigh ∷
    word (codes ", port ") ∷ number IndexLow ∷ [])
    -- descriptor and status of hubs (11.24.2.5, 11.24.2.6, 11.24.2.7, 11.24.2.10)
    ∷ (request 0xA0 0x06 ∷ fixed Value 0x2900 ∷ fixed Index 0 ∷
    word (codes "GET_DESCRIPTOR hub") ∷ word (codes ", ") ∷ number Length ∷
    word (codes " bytes") ∷ [])
    ∷ (request 0x20 0x07 ∷ fixed Value 0x2900 ∷ fixed Index 0 ∷
    word (codes "SET_DESCRIPTOR hub") ∷ word (codes ", ") ∷ number Length ∷
    word (codes " bytes") ∷ [])
    ∷ (request 0xA0 0x00 ∷ fixed Value 0 ∷ fixed Index 0 ∷ fixed Length 4 ∷
    word (codes "GET_STATUS hub") ∷ [])
    ∷ (request 0xA3 0x00 ∷ fixed Value 0 ∷ fixed Length 4 ∷ word (codes "GET_STATUS port ") ∷
    number Index ∷ [])
    -- transaction translators (11.24.2.3, 11.24.2.8, 11.24.2.9, 11.24.2.11)
    ∷ (request 0x23 0x08 ∷ fixed Length 0 ∷ word (codes "CLEAR_TT_BUFFER ") ∷ digits Value ∷
    word (codes ", port ") ∷ number Index ∷ [])
    ∷ (request 0x23 0x09 ∷ fixed Value 0 ∷ fixed Length 0 ∷ word (codes "RESET_TT port ") ∷
    number Index ∷ [])
    ∷ (request 0xA3 0x0A ∷ word (codes "GET_TT_STATE flags ") ∷ digits Value ∷
    word (codes ", port ") ∷ number Index ∷ word (codes ", ") ∷ number Length ∷
    word (codes " bytes") ∷ [])
    ∷ (request 0x23 0x0B ∷ fixed Value 0 ∷ fixed Length 0 ∷ word (codes "STOP_TT port ") ∷
    number Index ∷ [])
    -- HID (HID 1.11, sections 7.1 and 7.2)
    ∷ (request 0x81 0x06 ∷ word (codes "GET_DESCRIPTOR ") ∷ name ValueHigh hid_descriptors ∷
    word (codes " ") ∷ number ValueLow ∷ word (codes ", interface ") ∷ number Index ∷
    word (codes ", ") ∷ number Length ∷ word (codes " bytes") ∷ [])
    ∷ (request 0xA1 0x01 ∷ word (codes "GET_REPORT ") ∷ name ValueHigh report_types ∷
    word (codes " ") ∷ number ValueLow ∷ word (codes ", interface ") ∷ number Index ∷
    word (codes ", ") ∷ number Length ∷ word (codes " bytes") ∷ [])
    ∷ (request 0x21 0x09 ∷ word (codes "SET_REPORT ") ∷ name ValueHigh report_types ∷
    word (codes " ") ∷ number ValueLow ∷ word (codes ", interface ") ∷ number Index ∷
    word (codes ", ") ∷ number Length ∷ word (codes " bytes") ∷ [])
    ∷ (request 0xA1 0x02 ∷ fixed ValueHigh 0 ∷ fixed Length 1 ∷ word (codes "GET_IDLE report ") ∷
    number ValueLow ∷ word (codes ", interface ") ∷ number Index ∷ [])
    ∷ (request 0x21 0x0A ∷ fixed Length 0 ∷ word (codes "SET_IDLE duration ") ∷ number ValueHigh ∷
    word (codes ", report ") ∷ number ValueLow ∷ word (codes ", interface ") ∷ number Index ∷ [])
    ∷ (request 0xA1 0x03 ∷ fixed Value 0 ∷ fixed Length 1 ∷
    word (codes "GET_PROTOCOL interface ") ∷ number Index ∷ [])
    ∷ (request 0x21 0x0B ∷ fixed Length 0 ∷ word (codes "SET_PROTOCOL ") ∷ name Value protocols ∷
    word (codes ", interface ") ∷ number Index ∷ [])
    -- mass storage (Bulk-Only Transport 1.0, sections 3.1 and 3.2)
    ∷ (request 0xA1 0xFE ∷ fixed Value 0 ∷ fixed Length 1 ∷
    word (codes "GET_MAX_LUN interface ") ∷ number Index ∷ [])
    ∷ (request 0x21 0xFF ∷ fixed Value 0 ∷ fixed Length 0 ∷
    word (codes "BULK_ONLY_RESET interface ") ∷ number Index ∷ [])
    -- any other request
    ∷ (name Kind kinds ∷ word (codes " request 0x") ∷ byte RequestCode ∷
    word (codes ", bmRequestType 0x") ∷ byte RequestType ∷ word (codes ", wValue 0x") ∷
    digits Value ∷ word (codes ", wIndex 0x") ∷ digits Index ∷ word (codes ", wLength ") ∷
    number Length ∷ [])
    ∷ []

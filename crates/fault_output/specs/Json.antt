-- A report of faults as a JSON object (RFC 8259) on one line.
use Rattle.std.specs.Prelude.{ℕ, ◌==◌, nat_le, Bool, true, false, ◌||◌, ◌&&◌, codes, List, [], ◌∷◌, ◌++◌, Option, None, Some, if◌then◌else◌}
use Rattle.std.specs.Borrow.{Bor}
use Rattle.y86_base.specs.Numeral.{numeral}
use Rattle.fault_report.specs.Datapaths.{datapath_name}
use Rattle.hcl_types.specs.declared.table.Datapath.{Datapath}
use Rattle.fault_report.specs.declared.facts.Fault.{Fault}
use Rattle.fault_report.specs.declared.facts.Related.{Related}
use Rattle.fault_report.specs.declared.facts.Report.{Report}

-- A byte of a string: a quotation mark (34) and a backslash (92) have a backslash before them, and any byte that isn't
-- printable ASCII is `\u` with four hex digits.
abbrev pub char_text : ℕ → List ℕ
char_text byte =
    if byte == 34 || byte == 92
    then 92 ∷ byte ∷ []
    else (if nat_le 32 byte && nat_le byte 126 then byte ∷ [] else 92 ∷ 117 ∷ numeral 16 4 byte)

abbrev pub chars_text : List ℕ → List ℕ
chars_text [] = []
chars_text (byte ∷ bytes) = char_text byte ++ chars_text bytes

unfoldable pub string_text : List ℕ → List ℕ
string_text bytes = codes "\"" ++ chars_text bytes ++ codes "\""

-- what separates an element from the one before it
abbrev pub comma : Bool → List ℕ
comma is_first = if is_first then [] else codes ", "

-- strings with commas between them
abbrev pub strings_text : Bool → List (Bor (List ℕ)) → List ℕ
strings_text is_first [] = []
strings_text is_first (x ∷ xs) = comma is_first ++ string_text x.now ++ strings_text false xs

-- another place that a fault refers to
unfoldable pub place_text : Related → List ℕ
place_text place =
    codes "{\"role\": " ++ string_text place.role.now
    ++ codes ", \"text\": " ++ string_text place.text
    ++ codes ", \"line\": " ++ numeral 10 1 place.line
    ++ codes ", \"column\": " ++ numeral 10 1 place.column
    ++ codes "}"

abbrev pub places_text : Bool → List Related → List ℕ
places_text is_first [] = []
places_text is_first (x ∷ xs) = comma is_first ++ place_text x ++ places_text false xs

unfoldable pub expected_text : List (Bor (List ℕ)) → List ℕ
expected_text names = codes ", \"expected\": [" ++ strings_text true names ++ codes "]"

unfoldable pub related_text : List Related → List ℕ
related_text places = codes ", \"related\": [" ++ places_text true places ++ codes "]"

-- where a fault is
unfoldable pub where_text : Fault → List ℕ
where_text fault = codes "{\"line\": " ++ numeral 10 1 fault.line ++ codes ", \"column\": " ++ numeral 10 1 fault.column

-- what kind of fault it is
unfoldable pub kind_text : Fault → List ℕ
kind_text fault = codes ", \"code\": " ++ string_text fault.code.now ++ codes ", \"reason\": " ++ string_text fault.reason.now

-- the sentence on it
unfoldable pub said_text : Fault → List ℕ
said_text fault = codes ", \"sentence\": " ++ string_text fault.sentence ++ codes ", \"found\": " ++ string_text fault.found

unfoldable pub fault_text : Fault → List ℕ
fault_text fault = where_text fault ++ kind_text fault ++ said_text fault ++ expected_text fault.expected ++ related_text fault.related ++ codes "}"

abbrev pub faults_text : Bool → List Fault → List ℕ
faults_text is_first [] = []
faults_text is_first (x ∷ xs) = comma is_first ++ fault_text x ++ faults_text false xs

-- the datapath, if the report has one
abbrev pub datapath_text : Option Datapath → List ℕ
datapath_text None = []
datapath_text (Some datapath) = codes ", \"datapath\": " ++ string_text (datapath_name datapath)

unfoldable pub report_json : List ℕ → Report → List ℕ
report_json file report =
    codes "{\"file\": " ++ string_text file
    ++ datapath_text report.datapath
    ++ codes ", \"faults\": [" ++ faults_text true report.faults ++ codes "]}\n"

-- The definitions that the code's arguments and forms stand for.
use Rattle.std.specs.Prelude.{◌≡◌, ℕ, List, map, string_bytes, Option, Some, None}
use Rattle.std.specs.Borrow.{Bor}
use Rattle.std.specs.declared.alloc.Global.{Global}
use Rattle.std.specs.declared.string.String.{String}
use Rattle.y86_words.specs.declared.argument.Argument as code
use Rattle.y86_words.specs.declared.argument.Argument.TheVariants as code_variants
use Rattle.y86_words.specs.declared.argument.FoundArguments as code_found
use Rattle.y86_words.specs.declared.cmd.Cmd as code_command
use Rattle.y86_words.specs.declared.cmd.Cmd.TheVariants as code_commands
use Rattle.y86_words.specs.declared.form.Form as code_form
use Rattle.y86_words.specs.declared.form.PlaceForm as code_place
use Rattle.y86_words.specs.declared.form.PlaceForm.TheVariants as code_places
use Rattle.y86_words.specs.Arguments.{Argument, place, switch, arguments, in_front, FoundSoFar}
use Rattle.y86_words.specs.Forms.{Command, yas, yis, hcl, ssim, ssimp, psim, check_seq, check_plus, check_pipe, certify_pipe, recheck, Form, PlaceForm, keyword, file, number, sample, aig, aigrun, big}

abbrev pub argument_in : code.Argument → Argument
argument_in (code_variants.Positional word) = place word.now
argument_in (code_variants.Switch s n) = switch s n

-- an argument and the words after it
pub record FirstSplit : Type 0 where
  pub argument : Argument
  pub rest : List (List ℕ)

abbrev pub split_in : code.Argument × Bor (List (String Global)) → FirstSplit
split_in pair = record { argument = argument_in pair.0; rest = map string_bytes pair.1.now }

-- the arguments of the words are a first one and those of the rest, or the words can't be read
abbrev pub FirstArgument : List (List ℕ) → Option FirstSplit → Type 0
FirstArgument words None = arguments words ≡ None
FirstArgument words (Some split) = arguments words ≡ in_front (Some split.argument) (arguments split.rest)

abbrev pub words_in : List (Bor (List ℕ)) → List (List ℕ)
words_in words = map (λ word. word.now) words

abbrev pub filled_in : code_found.FoundArguments → FoundSoFar
filled_in found = record { words = words_in found.words.items; values = found.values }

abbrev pub place_in : code_place.PlaceForm → PlaceForm
place_in (code_places.Keyword text) = keyword text.now
place_in code_places.File = file
place_in (code_places.Number least most) = number least most

abbrev pub form_in : code_form.Form → Form
form_in form = record { kind = form.kind; name = form.name.now; places = map place_in form.places.now; options = form.options.now }

abbrev pub command_in : code_command.Cmd → Command
command_in (code_commands.Yas source size v) = yas source.now size v
command_in (code_commands.Yis object size limit v) = yis object.now size limit v
command_in (code_commands.Hcl name) = hcl name.now
command_in (code_commands.Ssim name object size limit v) = ssim name.now object.now size limit v
command_in (code_commands.Ssimp name object size limit v) = ssimp name.now object.now size limit v
command_in (code_commands.Psim name object size limit trace checked v) = psim name.now object.now size limit trace checked v
command_in (code_commands.CheckSeq name v) = check_seq name.now v
command_in (code_commands.CheckPlus name v) = check_plus name.now v
command_in (code_commands.CheckPipe name v) = check_pipe name.now v
command_in (code_commands.CertifyPipe name v) = certify_pipe name.now v
command_in (code_commands.Recheck name cert v) = recheck name.now cert.now v
command_in (code_commands.Sample name seed count v) = sample name.now seed count v
command_in (code_commands.Aig name v) = aig name.now v
command_in (code_commands.Aigrun name seed) = aigrun name.now seed
command_in (code_commands.Big n name v) = big n name.now v

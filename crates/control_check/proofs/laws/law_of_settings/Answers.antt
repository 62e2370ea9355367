use Rattle.control_check.proofs.OneSettings.{settings_alike}
use Rattle.control_check.proofs.laws.law_of_settings.Goals as goal

pub returns : goal.returns
returns c = λ v terms ids s s' ordered h k. settings_alike v terms ids ordered s s' h k

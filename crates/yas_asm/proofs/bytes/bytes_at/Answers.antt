use Rattle.yas_asm.proofs.SoundLemmas.{sound_instruction}
use Rattle.yas_asm.proofs.bytes.bytes_at.Goals as goal

pub encode-requires : goal.encode-requires
encode-requires c = sound_instruction _ _ _ _ _ _ _ _ _ c.in-Instruction.is c.value_of-val_c.ensures c.requires

use Rattle.seq_diagnosis.proofs.diagnosis.leaves_at.Goals as goal

pub control_values-requires-clause-sound : goal.control_values-requires-clause-sound
control_values-requires-clause-sound c = c.in_ok-t.ensures.sound

use Rattle.control_check.proofs.pipe_verdict.file_rules.Goals as goal

pub returns-clause-rules : goal.returns-clause-rules
returns-clause-rules c = record {
  settings = c.in_ok-made.made.settings;
  are_settings = c.in_ok-made.ensures.settings;
  are_rules = c.in_ok-made.ensures.rules;
  variant = c.in_ok-made.ensures.variant;
}

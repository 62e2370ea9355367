-- The code's lines, stage flows and register controls as those of the definitions, and a definition at what the code knows.
use Rattle.y86_base.specs.declared.parts.Variant.{Variant}
use Rattle.pipe_fields.specs.Layout.{Fields}
use Rattle.pipe_motion.specs.Flow.{StageFlow, Flow, RegisterControl, RegisterControls}
use Rattle.pipe_motion.specs.declared.settings.Settings.{Settings}
use Rattle.pipe_requirements.specs.declared.lines.Lines as code
use Rattle.pipe_requirements.specs.declared.flow.StageFlowNow.{StageFlowNow}
use Rattle.pipe_requirements.specs.declared.flow.FlowNow.{FlowNow}
use Rattle.pipe_requirements.specs.declared.flow.RegisterControlNow.{RegisterControlNow}
use Rattle.pipe_requirements.specs.declared.flow.RegisterControlsNow.{RegisterControlsNow}
use Rattle.pipe_requirements.specs.declared.now.Now.{Now}

abbrev pub fields_in : code.Lines → Fields
fields_in l =
    record {
      f = record { error = l.f.error; icode = l.f.icode; ifun = l.f.ifun; taken = l.f.taken; stops = l.f.stops; back = l.f.back };
      d = record {
        kind = l.d.kind;
        stat = l.d.stat;
        icode = l.d.icode;
        ifun = l.d.ifun;
        r_a = l.d.r_a;
        r_b = l.d.r_b;
        taken = l.d.taken;
        stops = l.d.stops;
        back = l.d.back;
      };
      e = record {
        kind = l.e.kind;
        stat = l.e.stat;
        icode = l.e.icode;
        ifun = l.e.ifun;
        dst_e = l.e.dst_e;
        dst_m = l.e.dst_m;
        src_a = l.e.src_a;
        src_b = l.e.src_b;
        cnd = l.e.cnd;
        stops = l.e.stops;
        back = l.e.back;
      };
      m = record {
        kind = l.m.kind;
        stat = l.m.stat;
        icode = l.m.icode;
        ifun = l.m.ifun;
        dst_e = l.m.dst_e;
        dst_m = l.m.dst_m;
        cnd = l.m.cnd;
        error = l.m.error;
        back = l.m.back;
      };
      w = record { kind = l.w.kind; stat = l.w.stat; icode = l.w.icode; dst_e = l.w.dst_e; dst_m = l.w.dst_m };
    }

abbrev pub as_stage_flow : StageFlowNow → StageFlow
as_stage_flow s = record { good = s.good; wrong = s.wrong; stops = s.stops; ret = s.ret; missed = s.missed }

abbrev pub as_flow : FlowNow → Flow
as_flow y = record { d = as_stage_flow y.d; e = as_stage_flow y.e; m = as_stage_flow y.m; w = as_stage_flow y.w }

abbrev pub as_register_control : RegisterControlNow → RegisterControl
as_register_control k = record { stall = k.stall; bubble = k.bubble }

abbrev pub as_register_controls : RegisterControlsNow → RegisterControls
as_register_controls k = record { f = as_register_control k.f; d = as_register_control k.d; e = as_register_control k.e; m = as_register_control k.m; w = as_register_control k.w }

-- a definition of the requirements at the variant, settings, fields, flow, and stall and bubble signals that are known
abbrev pub at_now : {A : Type 0} → (Variant → Settings → Fields → Flow → RegisterControls → A) → Now → A
at_now f n = f n.v n.s.now (fields_in n.l.now) (as_flow n.y.now) (as_register_controls n.mv.now)

-- A sound keeper stays sound, so a run that resumes from it opens over the same world.
use Rattle.std.proofs.Common.{◌≡◌, true, sym, subst}
use Rattle.std.specs.Prelude.{Option, Some, None, Err}
use Rattle.nf_keeper.specs.Held.{Both, Held}
use Rattle.nf_lane.specs.World.{World}
use Rattle.nf_record.specs.Laws.{NoFrontIsARecord, RecordsReadBack}
use Rattle.nf_core.specs.Seen.{events_of, plain_of}
use Rattle.nf_core.specs.Opening.{IsSteady, Opening}
use Rattle.nf_core.specs.Records.{Agrees, IsSound, writes_by}
use Rattle.nf_core.specs.Run.{IsRun, Parts}
use Rattle.nf_core.specs.Told.{Ending, told_in}
use Rattle.nf_core.proofs.Records.{stays_sound}
use Rattle.nf_steady.specs.Steady.{IsLeftByStop, IsSoundKeeper, OpensOver}

-- a keeper that told what it held still does
sound_on : (w : World) (before after : Option Held) (P : Held → Held → Type 0) → Both before after P
    → IsSoundKeeper w before → IsSound w after → IsSoundKeeper w after
sound_on w None after P both told sound = absurd told
sound_on w (Some m) None P both told sound = absurd both
sound_on w (Some m) (Some n) P both told sound = sound

told_sound : (w : World) (held : Option Held) → IsSoundKeeper w held → IsSound w held
told_sound w None told = absurd told
told_sound w (Some m) told = told

-- so does one that a stop within a put left
left_sound : RecordsReadBack → NoFrontIsARecord → (w : World) (F : Opening) (before after : Option Held) → IsSteady w F
    → Both before after (IsLeftByStop F) → IsSoundKeeper w before → IsSoundKeeper w after
left_sound back fronts w F None after lanes left sound = absurd sound
left_sound back fronts w F (Some m) None lanes left sound = absurd left
left_sound back fronts w F (Some m) (Some n) lanes left sound =
    stays_sound {T = Unit {0}} {E = Unit {0}} back fronts F w true left.job left.report (Some left.bytes) (Err tt)
    (Some m) (Some n) lanes left.given left.record_is left.image sound

module _ {D S : Type 0} {done : D → Ending → Type 0} {seen : S → Ending → Type 0} (w : World) (F G : Opening)
    (z : Parts D S) (run : IsRun F done seen z) (lanes : IsSteady w F) (told : IsSoundKeeper w F.held) where
  sound_after : IsSoundKeeper w z.held
  sound_after =
      sound_on w F.held z.held (λ m n. Agrees m (told_in (writes_by F.rules) (plain_of z.flow) (events_of z.flow)) n)
      run.records told (run.sound w lanes (told_sound w F.held told))

  pub next_opens : IsSteady w G → G.held ≡ z.held → OpensOver w G
  next_opens next held = record {
    lanes = next;
    keeper = λ resumed. subst (IsSoundKeeper w) (sym held) sound_after;
  }

  pub stopped_opens : RecordsReadBack → NoFrontIsARecord → IsSteady w G → Both z.held G.held (IsLeftByStop F) → OpensOver w G
  stopped_opens back fronts next left = record {
    lanes = next;
    keeper = λ resumed. left_sound back fronts w F z.held G.held lanes left sound_after;
  }

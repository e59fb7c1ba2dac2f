use Rattle.std.proofs.Common.{◌++◌, [], None, refl}
use Rattle.cfdp_port.specs.Port.{table_of}
use Rattle.any_order.specs.Kept.{all_kept}
use Rattle.promises.specs.Serving.{Served, inboxes, life_from}
use Rattle.promises.proofs.in_service.a_new_station_starts_anew.Goals as goal

pub returns : goal.returns
returns c = λ config count first number old sources files has fresh station valid is_new counts counted unused apart long.
    let new : Served = record {
      kept = record {
        station = station;
        before = all_kept old.kept;
        latest = life_from first;
        told_before = old.kept.told_before ++ (table_of old.kept.station).told;
        last_directives = None;
        last_data = None;
      };
      calls = [];
      has = has;
      begun = files;
      inboxes_before = inboxes old;
    } in (
      new,
      record {
        valid = valid;
        sources = sources;
        begun = record { fresh = fresh; is_new = is_new; count = count; counts = counts; counted = counted };
        unused = unused;
        apart = apart;
        kept = refl;
        calls = refl;
        inboxes_before = refl;
        long = long;
      },
      refl,
      refl,
      refl,
    )

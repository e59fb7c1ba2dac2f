use Rattle.cfdp_setup.proofs.station_setup.StationSetup.misfit.Goals as goal

pub returns-in-Some : goal.returns-in-Some
returns-in-Some c = c.in-Some.ensures.named c.args.id c.args.peer

pub returns-in-Some-security_misfit : goal.returns-in-Some-security_misfit
returns-in-Some-security_misfit c =
    c.in-Some-security_misfit.ensures.named c.args.id c.args.peer

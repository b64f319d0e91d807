use Rattle.log_model.proofs.hosted.SessionPlaces.{session_places}
use Rattle.log_model.proofs.hosted_laws.session_places_are.Goals as goal

pub returns : goal.returns
returns c = λ s index h. session_places s index h

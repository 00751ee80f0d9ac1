use Rattle.qm_inspect.proofs.FacesOfFiles.{faces_answer, face_answer}
use Rattle.qm_inspect.proofs.ModelsOfFiles.{model_answer}
use Rattle.qm_inspect.proofs.asking.answer.Goals as goal

pub returns-in-Model : goal.returns-in-Model
returns-in-Model c = model_answer c.args.file.now c.args.parts.now c.args.ask.now c.in-Model.entity c.model.result c.requires.parts c.in-Model.is c.model.ensures

pub returns-in-Faces : goal.returns-in-Faces
returns-in-Faces c = faces_answer c.args.file.now c.args.parts.now c.args.ask.now c.faces.result c.requires.parts c.in-Faces.is c.faces.ensures

pub returns-in-Face : goal.returns-in-Face
returns-in-Face c = face_answer c.args.file.now c.args.parts.now c.args.ask.now c.face.result c.requires.parts c.in-Face.n c.in-Face.is c.face.ensures

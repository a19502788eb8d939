pub mod Frame
pub mod FrameError
pub mod Accept
pub mod Store
pub mod Send
pub mod Laws

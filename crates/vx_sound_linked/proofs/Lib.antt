pub mod MethodFiles
pub mod GridFiles
pub mod GridCore
pub mod GridPrograms
pub mod NamePlaces
pub mod NativePrograms
pub mod Whole
